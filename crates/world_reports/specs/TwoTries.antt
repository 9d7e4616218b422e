-- Files of a damaged world, each of which is read again if it looks lost.
use Rattle.std.specs.Prelude.{◌≡◌, ◌⊎◌, ℕ, List, Option, Some, None, pos, Result, Err, Vec}
use Rattle.std.specs.Prelude.{IfErr}
use Rattle.std.specs.IoError.{error_kind, raw_os_error}
use Rattle.std.specs.declared.alloc.Global.{Global}
use Rattle.std.specs.declared.io.Error.{Error}
use Rattle.std.specs.declared.io.ErrorKind.TheVariants.{NotFound}
use Rattle.disk_model.specs.declared.four_files.FourFiles.{FourFiles}
use Rattle.world_folder.specs.History.{Act, AreInTurn}
use Rattle.world_folder.specs.ReadIn.{IsReadIn}
use Rattle.disk_model.specs.declared.world_file.WorldFile.{WorldFile}
use Rattle.world_reports.specs.declared.two_tries.TwoTries.{TwoTries}

-- the file isn't there, or its device can't read it: the error is of the number EIO
abbrev pub IsLost : Error → Type 0
IsLost error = (error_kind error ≡ NotFound) ⊎ (raw_os_error error ≡ Some (pos 5))

-- A file was read by its own name. If that failed, and the file looked lost, it was read once more,
-- and that answer counts.
abbrev pub IsTried : (file : WorldFile) → (failed : Option Error) → Result (Vec ℕ Global) Error
    → (before after : List Act) → Type 0
IsTried file None value before after =
    IsReadIn file value before after × IfErr value (λ error. ¬ IsLost error)
IsTried file (Some error) value before after =
    (between : List Act) × IsReadIn file (Err error) before between × IsLost error
    × IsReadIn file value between after

-- each file of four was read by its own name
abbrev pub AreTried : FourFiles TwoTries → (before after : List Act) → Type 0
AreTried files before after =
    AreInTurn (λ (file : WorldFile) (tries : TwoTries). IsTried file tries.failed tries.value)
    files before after
