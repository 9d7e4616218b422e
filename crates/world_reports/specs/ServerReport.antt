-- What the locks of a world's files say of its server.
use Rattle.std.specs.Prelude.{◌≡◌, List, ◌∷◌}
use Rattle.world_folder.specs.History.{Act, Asked, AskedOwn}
use Rattle.file_disk.specs.declared.locks.LockState.{LockState}
use Rattle.file_disk.specs.declared.locks.LockState.TheVariants as lock
use Rattle.world_reports.specs.declared.server_report.Locks.{Locks as AskedLocks}
use Rattle.world_reports.specs.declared.server_report.PartReport.{PartReport}
use Rattle.world_reports.specs.declared.server_report.PartReport.TheVariants as part
use Rattle.world_reports.specs.declared.server_report.ServerReport.{ServerReport}
use Rattle.world_reports.specs.declared.server_report.ServerReport.TheVariants.{Running, Missing}
use Rattle.world_reports.specs.declared.server_report.ServerReport.TheVariants.{Replaced, Unknown}
use Rattle.disk_model.specs.declared.world_file.WorldFile.TheVariants.{ImageA, ImageB, LogA}

-- each of three locks was asked for by the name of its own file, that of image.a last, and that of
-- the folder before and after them
abbrev pub asked : AskedLocks → List Act → List Act
asked locks acts =
    AskedOwn locks.folder_still ∷ Asked ImageA locks.image_a ∷ Asked LogA locks.log_a
    ∷ Asked ImageB locks.image_b ∷ AskedOwn locks.folder ∷ acts

-- a server takes the lock of a part that goes down
abbrev pub part_reported : LockState → PartReport
part_reported lock.Held = part.Down
part_reported lock.Free = part.Up
part_reported lock.Unknown = part.Unknown

-- the report by the folder's lock on a server that has none of the files under their names
abbrev pub folder_reported : (before after : LockState) → ServerReport
folder_reported lock.Held lock.Held = Replaced
folder_reported before after = Missing

-- the report by the lock of a server that runs, with those on its parts and on its folder
abbrev pub running_reported : (written before after : LockState) → (log images : PartReport)
    → ServerReport
running_reported lock.Held before after log images = Running log images
running_reported lock.Free before after log images = folder_reported before after
running_reported lock.Unknown before after log images = Unknown

-- image.a and the folder are locked while a server runs, log.a once its log is down, and image.b
-- once its images are
abbrev pub server_reported : AskedLocks → ServerReport
server_reported locks = running_reported locks.image_a locks.folder locks.folder_still
    (part_reported locks.log_a) (part_reported locks.image_b)

-- the report says what the locks say that were asked for
pub record IsServerReport (reported : ServerReport) (before after : List Act) : Type 0 where
  pub locks : AskedLocks
  pub are_asked : after ≡ asked locks before
  pub reported_is : reported ≡ server_reported locks
