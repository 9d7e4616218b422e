-- The history of a folder in memory, by its notes.
use Rattle.std.specs.Prelude.{List, [], ◌∷◌, string_bytes}
use Rattle.world_folder.specs.History.{Act, Looked, Opened, Made, Locked, Read, Measured, Asked}
use Rattle.world_folder.specs.History.{AskedOwn, Unopened, NamesSynced, OwnNameSynced, FoundEmpty}
use Rattle.world_folder.specs.History.{Printed, Warned, FoundOutside, Removed, GuardRead, GuardPut}
use Rattle.test_workers.specs.declared.note.Note.{Note}
use Rattle.test_workers.specs.declared.note.Note.TheVariants as note

abbrev pub act_of : Note → Act
act_of (note.Looked file there) = Looked file there
act_of (note.Opened file entry bytes) = Opened file entry bytes.items
act_of (note.Made file entry) = Made file entry
act_of (note.Locked entry) = Locked entry
act_of (note.Read file bytes) = Read file bytes.items
act_of (note.Unopened file) = Unopened file
act_of (note.Measured file length) = Measured file length
act_of (note.Asked file state) = Asked file state
act_of (note.AskedOwn state) = AskedOwn state
act_of note.NamesSynced = NamesSynced
act_of note.OwnNameSynced = OwnNameSynced
act_of (note.Removed file) = Removed file
act_of (note.GuardRead guard) = GuardRead guard
act_of (note.GuardPut guard) = GuardPut guard
act_of note.FoundEmpty = FoundEmpty
act_of (note.FoundOutside path) = FoundOutside (string_bytes path)
act_of (note.Printed text) = Printed (string_bytes text)
act_of (note.Warned text) = Warned (string_bytes text)

abbrev pub acts_of : List Note → List Act
acts_of [] = []
acts_of (note ∷ rest) = act_of note ∷ acts_of rest
