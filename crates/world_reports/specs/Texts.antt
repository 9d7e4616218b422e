-- The texts of reports and figures, as people read them.
use Rattle.std.specs.Prelude.{ℕ, ◌+◌, ◌-◌, ◌^◌, min, List, [], ◌++◌, ◌==◌, nat_lt, if◌then◌else◌}
use Rattle.std.specs.Prelude.{codes, decimal, Option, Some, None}
use Rattle.disk_model.specs.declared.four_files.FourFiles.{FourFiles}
use Rattle.file_format.specs.declared.slot.Slot.{Slot}
use Rattle.action_log.specs.declared.format.TheConstants.{SEGMENT_TICKS}
use Rattle.world_reports.specs.declared.file_reports.FileReport.{FileReport}
use Rattle.world_reports.specs.declared.file_reports.FileReport.TheVariants as report
use Rattle.world_reports.specs.declared.figures.Figures.{Figures as FiguresValue}
use Rattle.world_reports.specs.declared.server_report.PartReport.{PartReport}
use Rattle.world_reports.specs.declared.server_report.PartReport.TheVariants as part
use Rattle.world_reports.specs.declared.server_report.ServerReport.{ServerReport}
use Rattle.world_reports.specs.declared.server_report.ServerReport.TheVariants as server
use Rattle.world_folder.specs.declared.guard.Guard.{Guard}
use Rattle.disk_model.specs.declared.world_file.TheConstants.{IMAGE_A, IMAGE_B, LOG_A, LOG_B}
use Rattle.world_reports.specs.FileReports.{format_number}
use Rattle.salvage.specs.declared.image_part.ImagePart.{ImagePart}
use Rattle.salvage.specs.declared.image_part.ImagePart.TheVariants as image_part
use Rattle.salvage.specs.declared.log_part.LogPart.{LogPart}
use Rattle.salvage.specs.declared.log_part.LogPart.TheVariants as log_part
use Rattle.world_folder.specs.Texts.{world_text, recovered_text, log_name}

-- a count and its noun, which is in the plural unless the count is 1
abbrev pub counted_text : (count : ℕ) → (noun : List ℕ) → List ℕ
counted_text count noun =
    decimal count ++ codes " " ++ noun ++ (if count == 1 then [] else codes "s")

-- ---- a world

-- a copy of a world, and how often it was begun
abbrev pub backed_up_text : (tick from : ℕ) → List ℕ
backed_up_text tick from = codes "backed up " ++ world_text tick from

abbrev pub begun_text : (tries : ℕ) → List ℕ
begun_text tries = codes "worldd: it was begun " ++ decimal tries ++ codes " times"

-- the guard of a world
abbrev pub guard_text : Guard → List ℕ
guard_text guard =
    codes "guard: tick " ++ decimal guard.acked ++ codes " at @" ++ decimal guard.seconds
    ++ codes ", image of tick " ++ decimal guard.image ++ codes ", start " ++ decimal guard.starts
    ++ codes " of world " ++ decimal guard.world

-- a world that was salvaged
abbrev pub salvaged_text : (tick from : ℕ) → List ℕ
salvaged_text tick from = codes "salvaged " ++ world_text tick from

-- ---- files

abbrev pub reported_text : FileReport → List ℕ
reported_text report.Closed = codes "closed"
reported_text report.Damaged = codes "damaged"
reported_text (report.Image format cells tick) =
    codes "open, format " ++ decimal (format_number format) ++ codes ", "
    ++ counted_text cells (codes "cell") ++ codes ", tick " ++ decimal tick
reported_text (report.Log format base groups ticks) =
    codes "open, format " ++ decimal (format_number format) ++ codes ", base " ++ decimal base
    ++ codes ", " ++ counted_text groups (codes "group") ++ codes ", "
    ++ counted_text ticks (codes "tick")

-- ---- figures

-- the segment that the log continues in, and how many ticks it has
abbrev pub segment_text : Option (Slot × ℕ) → List ℕ
segment_text (Some (slot, ticks)) =
    log_name slot ++ codes " has " ++ decimal ticks ++ codes " of " ++ decimal SEGMENT_TICKS
segment_text None = codes "no segment is open"

abbrev pub figures_text : FiguresValue → List ℕ
figures_text figures =
    let world = figures.found.world in
    recovered_text world.tick world.from figures.found.slot
    ++ codes "\nlog: " ++ counted_text (world.tick - world.from) (codes "tick")
    ++ codes " after the image, " ++ segment_text figures.segment

-- how many bytes four files have together, as far as a number of 64 bits goes
abbrev pub total_of : FourFiles ℕ → ℕ
total_of lengths =
    min (lengths.image_a + lengths.image_b + lengths.log_a + lengths.log_b) (2 ^ 64 - 1)

-- how many bytes each of two files has
abbrev pub pair_text : (a : List ℕ) → (bytes_of_a : ℕ) → (b : List ℕ) → (bytes_of_b : ℕ) → List ℕ
pair_text a bytes_of_a b bytes_of_b =
    a ++ codes " " ++ decimal bytes_of_a ++ codes ", " ++ b ++ codes " " ++ decimal bytes_of_b

abbrev pub lengths_text : FourFiles ℕ → List ℕ
lengths_text lengths =
    codes "bytes: " ++ pair_text IMAGE_A.now lengths.image_a IMAGE_B.now lengths.image_b
    ++ codes ", " ++ pair_text LOG_A.now lengths.log_a LOG_B.now lengths.log_b
    ++ codes ", together " ++ decimal (total_of lengths)

-- ---- a server

abbrev pub part_text : PartReport → List ℕ
part_text part.Up = codes "up"
part_text part.Down = codes "down"
part_text part.Unknown = codes "unknown"

abbrev pub server_text : ServerReport → List ℕ
server_text (server.Running log images) =
    codes "server: running, log " ++ part_text log ++ codes ", images " ++ part_text images
server_text server.Replaced = codes "server: running, on files that were removed or replaced"
server_text server.Missing = codes "server: none"
server_text server.Unknown = codes "server: unknown"

-- ---- what is taken of damaged files

abbrev pub image_part_text : ImagePart → List ℕ
image_part_text image_part.Closed = codes "closed"
image_part_text (image_part.Whole tick) = codes "whole, tick " ++ decimal tick
image_part_text image_part.Dropped = codes "damaged, nothing is taken"

-- ticks after one of them, of which those up to a tick are taken
abbrev pub run_text : (base ticks to : ℕ) → List ℕ
run_text base ticks to =
    counted_text ticks (codes "tick") ++ codes " after tick " ++ decimal base
    ++ (if nat_lt to base then codes ", which is lost: nothing is taken" else [])

abbrev pub log_part_text : LogPart → (to : ℕ) → List ℕ
log_part_text log_part.Closed to = codes "closed"
log_part_text log_part.Dropped to = codes "damaged, nothing is taken"
log_part_text (log_part.Whole base ticks) to = codes "whole, " ++ run_text base ticks to
log_part_text (log_part.Cut at base ticks) to =
    codes "damaged from byte " ++ decimal at ++ codes " on, " ++ run_text base ticks to
