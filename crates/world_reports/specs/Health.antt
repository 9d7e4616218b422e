-- Whether a world is well that is to be served.
use Rattle.std.specs.Prelude.{ℕ, List, ◌++◌, Option, Some, None, codes, decimal, nat_lt}
use Rattle.std.specs.Prelude.{if◌then◌else◌}
use Rattle.world_folder.specs.declared.ending.Ending.{Ending}
use Rattle.world_folder.specs.declared.ending.Ending.TheVariants.{Ran}
use Rattle.world_folder.specs.declared.ending.Ending.TheVariants as ending
use Rattle.world_folder.specs.declared.ending.Unwell.TheVariants as unwell
use Rattle.world_reports.specs.declared.health.Health.{Health as Reported}
use Rattle.world_reports.specs.declared.health.Health.TheVariants.{Well, Unguarded, ImagesDown}
use Rattle.world_reports.specs.declared.health.Health.TheVariants.{LogDown, Replaced, NotServed}
use Rattle.world_reports.specs.declared.health.Health.TheVariants.{Unknown, Hangs}
use Rattle.world_reports.specs.declared.health.TheConstants.{HANGS_AFTER_SECONDS}
use Rattle.world_reports.specs.declared.server_report.PartReport.{PartReport}
use Rattle.world_reports.specs.declared.server_report.PartReport.TheVariants as part
use Rattle.world_reports.specs.declared.server_report.ServerReport.{ServerReport}
use Rattle.world_reports.specs.declared.server_report.ServerReport.TheVariants as server

-- a world whose server runs on: so if its images are up
abbrev pub images_health : PartReport → (up : Reported) → Reported
images_health part.Up up = up
images_health part.Down up = ImagesDown
images_health part.Unknown up = Unknown

-- A world whose log is up, and whose guard was written or touched so many seconds ago. Without a
-- guard a hang isn't known.
abbrev pub health_of_up : (images : PartReport) → (age : Option ℕ) → Reported
health_of_up images None = images_health images Unguarded
health_of_up images (Some seconds) =
    if nat_lt HANGS_AFTER_SECONDS seconds then Hangs seconds else images_health images Well

-- by the log first, then by a hang, then by the images
abbrev pub health_of_running : (log images : PartReport) → (age : Option ℕ) → Reported
health_of_running part.Up images age = health_of_up images age
health_of_running part.Down images age = LogDown
health_of_running part.Unknown images age = Unknown

abbrev pub health_of : ServerReport → (age : Option ℕ) → Reported
health_of (server.Running log images) age = health_of_running log images age
health_of server.Replaced age = Replaced
health_of server.Missing age = NotServed
health_of server.Unknown age = Unknown

-- how a command ends that found a world of this health
abbrev pub health_ending : Reported → Ending
health_ending Well = Ran
health_ending Unguarded = Ran
health_ending ImagesDown = ending.Unwell unwell.ImagesDown
health_ending LogDown = ending.Unwell unwell.LogDown
health_ending Replaced = ending.Unwell unwell.LogDown
health_ending NotServed = ending.Unwell unwell.NotServed
health_ending Unknown = ending.Unwell unwell.NotServed
health_ending (Hangs seconds) = ending.Unwell unwell.Hangs

-- how a command ends that found a world of this health, and would end so otherwise: a world that
-- may be older comes first
abbrev pub ending_with : Reported → Ending → Ending
ending_with health Ran = health_ending health
ending_with health other = other

abbrev pub health_text : Reported → List ℕ
health_text Well = codes "check: well"
health_text Unguarded = codes "check: well, except that it has no guard to show a hang"
health_text ImagesDown = codes "check: images down"
health_text LogDown = codes "check: log down"
health_text Replaced = codes "check: files were removed or replaced"
health_text NotServed = codes "check: not served"
health_text Unknown = codes "check: unknown"
health_text (Hangs seconds) =
    codes "check: hangs: no sign of life for " ++ decimal seconds ++ codes " seconds"
