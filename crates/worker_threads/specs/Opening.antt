-- The files of a world that was opened for its workers.
use Rattle.std.specs.Prelude.{◌≡◌, IfSome, IsSome}
use Rattle.disk_model.specs.declared.four_files.FourFiles.{FourFiles}
use Rattle.workers.specs.declared.checkpointer.round.ImageWriter.{ImageWriter}
use Rattle.workers.specs.declared.log_writer.Log.{Log}
use Rattle.worker_threads.specs.declared.threads.NotBegun.{NotBegun}
use Rattle.worker_threads.specs.declared.threads.NotStarted.TheVariants.{NoMemory}

-- the four files of these two keepers
abbrev pub files_of : {D : Type 0} → ImageWriter D → Log D → FourFiles D
files_of writer log =
    record { image_a = writer.image_a; image_b = writer.image_b; log_a = log.a; log_b = log.b }

-- a refused start of the workers gives these files back, surely so if there is no memory
abbrev pub GivesBack : {D : Type 0} → FourFiles D → NotBegun D → Type 0
GivesBack files refused =
    IfSome refused.files (λ left. left ≡ files) × (refused.why ≡ NoMemory → IsSome refused.files)
