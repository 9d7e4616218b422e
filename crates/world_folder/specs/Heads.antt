-- The heads of four files, and what is found in them.
use Rattle.std.specs.Prelude.{ℕ, List, ◌&&◌, ◌==◌, nat_le, nat_lt, length, get_or, drop, Option}
use Rattle.std.specs.Prelude.{Some, None, if◌then◌else◌, Bool, true}
use Rattle.disk_model.specs.Disk.{Call, Length, Read}
use Rattle.disk_model.specs.declared.world_file.WorldFile.{WorldFile}
use Rattle.disk_model.specs.declared.world_file.WorldFile.TheVariants.{ImageA, ImageB, LogA, LogB}
use Rattle.file_format.specs.declared.slot.Slot.{Slot}
use Rattle.file_format.specs.declared.slot.Slot.TheVariants.{A, B}
use Rattle.file_format.specs.declared.gate.TheConstants.{OPEN_GATE}
use Rattle.file_format.specs.declared.format.TheConstants.{MARK_PLACE}
use Rattle.file_format.specs.Number.{number_of}
use Rattle.image_files.specs.Image.{is_open, tick_in}
use Rattle.action_log.specs.declared.format.TheConstants.{HEADER_BYTES}
use Rattle.world_folder.specs.declared.heads.Summary.{Summary}
use Rattle.world_folder.specs.declared.heads.TheConstants.{IMAGE_HEAD, SEGMENT_HEAD}

-- how many bytes of a file are its head
abbrev pub head_of : WorldFile → ℕ
head_of ImageA = IMAGE_HEAD
head_of ImageB = IMAGE_HEAD
head_of LogA = SEGMENT_HEAD
head_of LogB = SEGMENT_HEAD

-- these bytes of a file were asked for: its length, and then by one call the first bytes
abbrev pub IsHeadAsked : {D : Type 0} → (called : D → Call → Bool → D → Type 0) → (head : List ℕ)
    → (old new : D) → Type 0
IsHeadAsked called head old new =
    (asked : _) × called old Length true asked × called asked (Read 0 (length head)) true new

-- the tick of an image, if it is open
abbrev pub opened_tick : List ℕ → Option ℕ
opened_tick bytes = if is_open bytes then Some (tick_in bytes) else None

-- the base of a segment with the mark of its format, if it is open
abbrev pub opened_base : List ℕ → Option ℕ
opened_base bytes =
    if nat_le HEADER_BYTES (length bytes) && (get_or bytes 0 0 == OPEN_GATE)
    then Some (number_of 8 (drop MARK_PLACE bytes)) else None

-- the greater tick, and the file that has it, image.a if both are alike
abbrev pub newest_tick : Option ℕ → Option ℕ → Option (Slot × ℕ)
newest_tick (Some s) (Some t) = if nat_lt s t then Some (B, t) else Some (A, s)
newest_tick (Some s) None = Some (A, s)
newest_tick None (Some t) = Some (B, t)
newest_tick None None = None

-- what four files with these bytes say
abbrev pub summary_of : (image_a image_b log_a log_b : List ℕ) → Summary
summary_of image_a image_b log_a log_b = record {
  newest = newest_tick (opened_tick image_a) (opened_tick image_b);
  log_a = opened_base log_a;
  log_b = opened_base log_b;
}
