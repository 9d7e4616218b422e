-- The report on a file: how it reads.
use Rattle.std.specs.Prelude.{◌≡◌, List, ℕ, length, Some}
use Rattle.file_format.specs.declared.format.Format.{Format}
use Rattle.file_format.specs.declared.format.Format.TheVariants.{First, Second}
use Rattle.file_format.specs.Format.{format_in}
use Rattle.image_files.specs.Image.{image_of, Closed, Bad, Open}
use Rattle.action_log.specs.Segment.{Tick, ClosedSegment, MalformedSegment, IsSegment}
use Rattle.action_log.specs.Segment.{IsOpenSegment}
use Rattle.world_reports.specs.declared.file_reports.FileReport.{FileReport}
use Rattle.world_reports.specs.declared.file_reports.FileReport.TheVariants as report

-- the number by which people know a format
abbrev pub format_number : Format → ℕ
format_number First = 1
format_number Second = 2

-- the report on an image file's bytes: of an open image the format by its mark, the number of
-- cells, and its tick
abbrev pub IsImageReport : List ℕ → FileReport → Type 0
IsImageReport bytes report.Closed = image_of bytes ≡ Closed
IsImageReport bytes report.Damaged = image_of bytes ≡ Bad
IsImageReport bytes (report.Image format cells tick) =
    (format_in bytes ≡ Some format) × (words : List ℕ)
    × (image_of bytes ≡ Open tick words) × (cells ≡ length words)
IsImageReport bytes (report.Log format base groups ticks) = ⊥

-- the report on a log file's bytes: of an open segment its format, its base, and the numbers of
-- groups and ticks
abbrev pub IsLogReport : List ℕ → FileReport → Type 0
IsLogReport bytes report.Closed = IsSegment bytes ClosedSegment
IsLogReport bytes report.Damaged = IsSegment bytes MalformedSegment
IsLogReport bytes (report.Log format base groups ticks) =
    (listed : List Tick) × (segment : IsOpenSegment bytes base listed)
    × (format ≡ segment.format) × (groups ≡ length segment.groups) × (ticks ≡ length listed)
IsLogReport bytes (report.Image format cells tick) = ⊥
