-- The calls that a program made in a folder, and the lines that it printed: its history, the
-- latest one first.
use Rattle.std.specs.Prelude.{◌≡◌, ◌⊎◌, ℕ, List, ◌∷◌, Option, Some, None}
use Rattle.std.specs.IoError.{error_kind}
use Rattle.std.specs.declared.io.Error.{Error}
use Rattle.std.specs.declared.io.ErrorKind.TheVariants.{OutOfMemory}
use Rattle.disk_model.specs.declared.four_files.FourFiles.{FourFiles}
use Rattle.world_folder.specs.declared.entry.Entry.{Entry}
use Rattle.world_folder.specs.declared.guard.Guard.{Guard}
use Rattle.file_disk.specs.declared.locks.LockState.{LockState}
use Rattle.disk_model.specs.declared.world_file.WorldFile.{WorldFile}
use Rattle.disk_model.specs.declared.world_file.WorldFile.TheVariants.{ImageA, ImageB, LogA, LogB}

-- a call that succeeded, with its answer, or a failure that is noted
pub data Act : Type 0 where
  -- this is what stands under a name, if anything does
  Looked : WorldFile → Option Entry → Act
  -- the file to which a name leads was opened to be written: it is this one, and has these bytes
  Opened : WorldFile → Entry → List ℕ → Act
  -- a new file was made under a name
  Made : WorldFile → Entry → Act
  -- this program has the lock of this file
  Locked : Entry → Act
  -- the file to which a name leads was opened to be read, and has these bytes
  Read : WorldFile → List ℕ → Act
  -- the file to which a name leads could not be opened to be read
  Unopened : WorldFile → Act
  -- the file to which a name leads is so long
  Measured : WorldFile → ℕ → Act
  -- a reader asked for the lock of the file to which a name leads
  Asked : WorldFile → LockState → Act
  -- a reader asked for the lock of the folder itself
  AskedOwn : LockState → Act
  -- the names of the folder's files are durable
  NamesSynced : Act
  -- the name of the folder itself is durable
  OwnNameSynced : Act
  -- the file under a name was removed
  Removed : WorldFile → Act
  -- the guard of the world was read, if it has one, and was put into the folder
  GuardRead : Option Guard → Act
  GuardPut : Guard → Act
  -- the folder has no file
  FoundEmpty : Act
  -- the folder doesn't lie in the folder at this path
  FoundOutside : List ℕ → Act
  -- a line with this text was printed, on standard output or on standard error
  Printed : List ℕ → Act
  Warned : List ℕ → Act

-- such calls were made for each file of four, under its own name, image.a first
pub record AreInTurn {X : Type 0} (AreFor : WorldFile → X → (before after : List Act) → Type 0)
    (files : FourFiles X) (before after : List Act) : Type 0 where
  pub with_image_a : List Act
  pub with_image_b : List Act
  pub with_log_a : List Act
  pub image_a : AreFor ImageA files.image_a before with_image_a
  pub image_b : AreFor ImageB files.image_b with_image_a with_image_b
  pub log_a : AreFor LogA files.log_a with_image_b with_log_a
  pub log_b : AreFor LogB files.log_b with_log_a after

-- a line was printed on standard output: the one whose text is stated, if it is
abbrev pub IsPrinted : Option (List ℕ) → (before after : List Act) → Type 0
IsPrinted (Some text) before after = after ≡ Printed text ∷ before
IsPrinted None before after = (text : List ℕ) × (after ≡ Printed text ∷ before)

-- a line was printed on standard error: the one whose text is stated, if it is
abbrev pub IsWarned : Option (List ℕ) → (before after : List Act) → Type 0
IsWarned (Some text) before after = after ≡ Warned text ∷ before
IsWarned None before after = (text : List ℕ) × (after ≡ Warned text ∷ before)

-- A file could not be opened to be read. That is noted, except if memory ran out.
abbrev pub IsUnopened : (file : WorldFile) → Error → (before after : List Act) → Type 0
IsUnopened file error before after =
    (after ≡ Unopened file ∷ before) ⊎ ((error_kind error ≡ OutOfMemory) × (after ≡ before))

-- the lock of image.a is taken, and that of no other file
abbrev pub with_lock : WorldFile → Entry → List Act → List Act
with_lock ImageA entry acts = Locked entry ∷ acts
with_lock ImageB entry acts = acts
with_lock LogA entry acts = acts
with_lock LogB entry acts = acts

-- A file was opened or made by this act, and its lock was taken if it is image.a, up to a call that
-- failed.
abbrev pub IsTakenInPart : (file : WorldFile) → (Entry → Act) → (before after : List Act) → Type 0
IsTakenInPart file act before after =
    (after ≡ before) ⊎ ((entry : Entry)
    × ((after ≡ act entry ∷ before) ⊎ (after ≡ with_lock file entry (act entry ∷ before))))

-- the names of the files are durable, and then the folder's own
abbrev pub synced : List Act → List Act
synced acts = OwnNameSynced ∷ NamesSynced ∷ acts

-- the names are durable up to a call that failed
abbrev pub IsSyncedInPart : (before after : List Act) → Type 0
IsSyncedInPart before after =
    (after ≡ before) ⊎ ((after ≡ NamesSynced ∷ before) ⊎ (after ≡ synced before))
