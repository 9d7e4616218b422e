-- What is left of the files that were made in a folder.
use Rattle.std.proofs.Common.{◌≡◌, Bool, true, false, List, ◌∷◌, subst, sym, ap}
use Rattle.disk_model.specs.declared.four_files.FourFiles.{FourFiles}
use Rattle.disk_model.specs.FourFiles.{value_of, with_value}
use Rattle.world_folder.specs.History.{Act, Made, Removed}
use Rattle.world_folder.specs.Left.{Leaves}
use Rattle.world_folder.specs.declared.entry.Entry.{Entry}
use Rattle.disk_model.specs.declared.world_file.WorldFile.{WorldFile}
use Rattle.disk_model.specs.declared.world_file.WorldFile.TheVariants.{ImageA, ImageB, LogA, LogB}

pub leaves_made : (file : WorldFile) (entry : Entry) (made : FourFiles Bool) (before after : List Act) → after ≡ Made file entry ∷ before → Leaves made before
    → Leaves (with_value file true made) after
leaves_made file entry made before after e leaves =
    subst (λ (acts : List Act). Leaves (with_value file true made) acts) (sym e) (ap (with_value file true) leaves.0, leaves.1)

pub leaves_removed : (file : WorldFile) (made : FourFiles Bool) (before after : List Act) → after ≡ Removed file ∷ before → value_of file made ≡ true → Leaves made before
    → Leaves (with_value file false made) after
leaves_removed file made before after e there leaves =
    subst (λ (acts : List Act). Leaves (with_value file false made) acts) (sym e)
    (ap (with_value file false) leaves.0, (subst (λ (left : FourFiles Bool). value_of file left ≡ true) (sym leaves.0) there, leaves.1))

pub leaves_same : (made : FourFiles Bool) (before after : List Act) → after ≡ before → Leaves made before → Leaves made after
leaves_same made before after e leaves = subst (λ (acts : List Act). Leaves made acts) (sym e) leaves

-- a file that wasn't made is none of those that are left without it
pub none_without : (file : WorldFile) (made : FourFiles Bool) → value_of file made ≡ false → made ≡ with_value file false made
none_without ImageA made e = λ i. record made { image_a = e i }
none_without ImageB made e = λ i. record made { image_b = e i }
none_without LogA made e = λ i. record made { log_a = e i }
none_without LogB made e = λ i. record made { log_b = e i }
