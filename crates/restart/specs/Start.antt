-- The parts of a start.
use Rattle.std.specs.Prelude.{◌≡◌, ℕ, List, [], length, get_or, Bool, true, false, not, nat_eq}
use Rattle.std.specs.Prelude.{nat_lt, ◌&&◌, Option, Some, None}
use Rattle.file_format.specs.declared.gate.TheConstants.{OPEN_GATE}
use Rattle.file_format.specs.declared.slot.Slot.{Slot}
use Rattle.capture_core.specs.Content.{Content, all_touched, Marks}
use Rattle.image_files.specs.Progress.{Progress, begun_keeper}
use Rattle.image_files.specs.Images.{ImageFiles, with_round}

-- true if the start has a round: there is no image, or the newest one is of an earlier tick
abbrev pub has_round : Option (Slot × ℕ) → (tick : ℕ) → Bool
has_round None tick = true
has_round (Some image) tick = nat_lt image.1 tick

-- a store just built from these words, and marked if the start has a round
abbrev pub IsBuilt : List ℕ → (round : Bool) → Content → Type 0
IsBuilt words false content = content ≡ all_touched words []
IsBuilt words true content = Marks (all_touched words []) content

-- the new image keeper, with its round begun if the start has one
abbrev pub started_keeper : (round : Bool) → (tick : ℕ) → Progress → Progress
started_keeper false tick keeper = keeper
started_keeper true tick keeper = begun_keeper tick keeper

-- the images, with the start's round begun if it has one
abbrev pub images_begun : (round : Bool) → (tick : ℕ) → ImageFiles → ImageFiles
images_begun false tick images = images
images_begun true tick images = with_round tick images

-- true if a file's gate is there and isn't open
abbrev pub is_shut : List ℕ → Bool
is_shut bytes = nat_lt 0 (length bytes) && not (nat_eq (get_or bytes 0 0) OPEN_GATE)
