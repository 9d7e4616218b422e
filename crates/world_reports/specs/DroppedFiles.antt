-- The files of which something is dropped when their world is salvaged.
use Rattle.std.specs.Prelude.{ℕ, List, [], ◌++◌, codes, length, Bool, true, false, ◌||◌, ◌&&◌}
use Rattle.std.specs.Prelude.{◌==◌, nat_lt, if◌then◌else◌}
use Rattle.disk_model.specs.declared.four_files.FourFiles.{FourFiles}
use Rattle.salvage.specs.declared.image_part.ImagePart.{ImagePart}
use Rattle.salvage.specs.declared.image_part.ImagePart.TheVariants as images
use Rattle.salvage.specs.declared.log_part.LogPart.{LogPart}
use Rattle.salvage.specs.declared.log_part.LogPart.TheVariants as logs
use Rattle.salvage.specs.declared.salvaged.Salvaged.{Salvaged}
use Rattle.world_folder.specs.Fault.{Files}
use Rattle.world_folder.specs.declared.ending.Ending.{Ending}
use Rattle.world_folder.specs.declared.ending.Ending.TheVariants.{Ran, MayBeOlder}
use Rattle.disk_model.specs.declared.world_file.TheConstants.{IMAGE_A, IMAGE_B, LOG_A, LOG_B}

-- An image file was lost, is damaged, or was emptied: it is empty beside one of a tick above 0. By
-- then both were written once.
abbrev pub image_dropped : (lost : Bool) → (from : ℕ) → List ℕ → ImagePart → Bool
image_dropped lost from bytes images.Dropped = true
image_dropped lost from bytes part = lost || (length bytes == 0 && nat_lt 0 from)

-- A log file is damaged, is cut, or begins after this tick; or it has no byte. One that was lost
-- has none. An empty one may have been lost even at tick 0.
abbrev pub log_dropped : (tick : ℕ) → List ℕ → LogPart → Bool
log_dropped tick bytes logs.Closed = length bytes == 0
log_dropped tick bytes (logs.Whole base ticks) = nat_lt tick base
log_dropped tick bytes part = true

-- what is dropped of four files with these bytes, of which this was salvaged
abbrev pub dropped_of : (lost : FourFiles Bool) → Files → Salvaged → FourFiles Bool
dropped_of lost files salvaged = record {
  image_a = image_dropped lost.image_a salvaged.found.from files.image_a.items salvaged.image_a;
  image_b = image_dropped lost.image_b salvaged.found.from files.image_b.items salvaged.image_b;
  log_a = log_dropped salvaged.found.tick files.log_a.items salvaged.log_a;
  log_b = log_dropped salvaged.found.tick files.log_b.items salvaged.log_b;
}

abbrev pub is_any : FourFiles Bool → Bool
is_any dropped = dropped.image_a || dropped.image_b || dropped.log_a || dropped.log_b

-- all was taken, or the world may be older
abbrev pub ending_of : FourFiles Bool → Ending
ending_of dropped = if is_any dropped then MayBeOlder else Ran

-- a name of a list, if it is named there, after others or as the first one
abbrev pub name_after : (is_after is_named : Bool) → (name : List ℕ) → List ℕ
name_after is_after false name = []
name_after false true name = name
name_after true true name = codes ", " ++ name

-- the names of the files, image.a first, or that there is none
abbrev pub dropped_text : FourFiles Bool → List ℕ
dropped_text dropped =
    if is_any dropped
    then codes "dropped: " ++ name_after false dropped.image_a IMAGE_A.now
    ++ name_after dropped.image_a dropped.image_b IMAGE_B.now
    ++ name_after (dropped.image_a || dropped.image_b) dropped.log_a LOG_A.now
    ++ name_after (dropped.image_a || dropped.image_b || dropped.log_a) dropped.log_b LOG_B.now
    else codes "dropped: nothing"
