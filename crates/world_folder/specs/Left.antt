-- Files that were made in a folder, and removed again.
use Rattle.std.specs.Prelude.{◌≡◌, Bool, true, false, IsTrue, List, [], ◌∷◌}
use Rattle.disk_model.specs.declared.four_files.FourFiles.{FourFiles}
use Rattle.disk_model.specs.FourFiles.{each_of, value_of, with_value}
use Rattle.world_folder.specs.History.{Act, Made, Removed}

-- the files that were made, and not removed since
abbrev pub left_in : List Act → FourFiles Bool
left_in [] = each_of false
left_in (Made file entry ∷ acts) = with_value file true (left_in acts)
left_in (Removed file ∷ acts) = with_value file false (left_in acts)
left_in (act ∷ acts) = left_in acts

-- each file that was removed had been made
abbrev pub RemovesOwn : List Act → Type 0
RemovesOwn [] = Unit {0}
RemovesOwn (Removed file ∷ acts) = IsTrue (value_of file (left_in acts)) × RemovesOwn acts
RemovesOwn (act ∷ acts) = RemovesOwn acts

-- these files are left of those that were made, and no other file was removed
abbrev pub Leaves : FourFiles Bool → List Act → Type 0
Leaves made acts = (left_in acts ≡ made) × RemovesOwn acts

-- no file was made or removed
abbrev pub KeepsLeft : (before after : List Act) → Type 0
KeepsLeft before after = (made : FourFiles Bool) → Leaves made before → Leaves made after
