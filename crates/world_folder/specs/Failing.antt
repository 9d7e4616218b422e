-- Files whose calls failed.
use Rattle.std.specs.Prelude.{Option, Some, None}
use Rattle.std.specs.declared.io.Error.{Error}
use Rattle.disk_model.specs.declared.four_files.FourFiles.{FourFiles}
use Rattle.disk_model.specs.declared.world_file.WorldFile.{WorldFile}
use Rattle.disk_model.specs.declared.world_file.WorldFile.TheVariants.{ImageA, ImageB, LogA, LogB}

-- the error of a file that is there
abbrev pub failure_there : {D : Type 0} → (failure : D → Option Error) → Option D → Option Error
failure_there failure None = None
failure_there failure (Some disk) = failure disk

abbrev first_of : WorldFile → Option Error → Option (WorldFile × Error) → Option (WorldFile × Error)
first_of file None rest = rest
first_of file (Some error) rest = Some (file, error)

-- the first of four files that has an error
abbrev pub first_failure : FourFiles (Option Error) → Option (WorldFile × Error)
first_failure failures =
    first_of ImageA failures.image_a (first_of ImageB failures.image_b
    (first_of LogA failures.log_a (first_of LogB failures.log_b None)))
