-- A keeper and its files image.a and image.b, by the names of the files.
use Rattle.std.specs.Prelude.{◌≡◌, ℕ, Bool, true, false, Option, Some, None, List, length}
use Rattle.file_format.specs.declared.slot.Slot.{Slot}
use Rattle.file_format.specs.Slot.{of_slot, in_slot, beside_slot}
use Rattle.file_format.specs.Gate.{HasShutGate, HasNoShutGate}
use Rattle.image_files.specs.Image.{Image, image_of}
use Rattle.image_files.specs.Image.Image.{Closed, Open}
use Rattle.image_files.specs.Images.{ImageFiles, NoneYet, Newest}
use Rattle.image_files.specs.Progress.{Progress, target_of, done, newest_words, round_of}
use Rattle.image_files.specs.Keeper.{Fits, Endures}
use Rattle.disk_model.specs.declared.disk.Disk.{Ghosts}

-- the contents of the two files are as the keeper's data says
abbrev pub FitsFiles : Progress → (image_a image_b : List ℕ) → Type 0
FitsFiles keeper image_a image_b =
    Fits keeper (of_slot (target_of keeper.newest) image_a image_b)
    (of_slot (target_of keeper.newest) image_b image_a)

-- the words taken so far
abbrev pub done_in : Progress → (image_a image_b : List ℕ) → List ℕ
done_in keeper image_a image_b =
    done keeper (of_slot (target_of keeper.newest) image_a image_b)
    (of_slot (target_of keeper.newest) image_b image_a)

-- the reading of the round's target before the round
abbrev pub before_in : ImageFiles → Image
before_in (NoneYet images) = Closed
before_in (Newest images) = images.before

-- the images, as plain data, are those of the keeper and its files
abbrev pub IsHeld : ImageFiles → Progress → (target newest : List ℕ) → Type 0
IsHeld (NoneYet images) keeper target newest =
    (keeper.newest ≡ None) × (image_of newest ≡ Closed)
    × (images.round ≡ round_of keeper target newest)
IsHeld (Newest images) keeper target newest =
    (keeper.newest ≡ Some (images.slot, images.tick)) × (images.words ≡ newest_words keeper newest)
    × (images.round ≡ round_of keeper target newest)

-- The keeper and its two files represent these images, also after a crash.
pub record StandsFor (keeper : Progress) (images : ImageFiles) (target newest : List ℕ)
    (target_outcomes newest_outcomes : List ℕ → Type 0) : Type 0 where
  pub fits : Fits keeper target newest
  pub endures : Endures keeper (before_in images) target newest target_outcomes newest_outcomes
  pub held : IsHeld images keeper target newest

-- the same relation by the files' names
abbrev pub Stands : Progress → ImageFiles → (image_a image_b : List ℕ)
    → (outcomes_a outcomes_b : List ℕ → Type 0) → Type 0
Stands keeper images image_a image_b outcomes_a outcomes_b =
    StandsFor keeper images (of_slot (target_of keeper.newest) image_a image_b)
    (of_slot (target_of keeper.newest) image_b image_a)
    (in_slot (target_of keeper.newest) outcomes_a outcomes_b)
    (beside_slot (target_of keeper.newest) outcomes_a outcomes_b)

-- the same relation for two disks
abbrev pub DisksStand : {D : Type 0} → Ghosts D → Progress → ImageFiles
    → (image_a image_b : D) → Type 0
DisksStand disk keeper images image_a image_b =
    Stands keeper images (disk.content image_a) (disk.content image_b)
    (disk.may_leave image_a) (disk.may_leave image_b)

-- ---- a keeper just made

-- the flag says correctly if the file is shut
pub record ReportsShut (shut : Bool) (file : List ℕ) : Type 0 where
  pub yes : shut ≡ true → HasShutGate file
  pub no : shut ≡ false → HasNoShutGate file

-- no round is in work, and the files hold the images for which a new keeper is made
abbrev pub IsReported : (cells : ℕ) → Option (Slot × ℕ) → ImageFiles
    → (image_a image_b : List ℕ) → Type 0
IsReported cells newest (NoneYet images) image_a image_b =
    (newest ≡ None) × (images.round ≡ None) × (image_of image_a ≡ Closed)
    × (image_of image_b ≡ Closed)
IsReported cells newest (Newest images) image_a image_b =
    (newest ≡ Some (images.slot, images.tick)) × (images.round ≡ None)
    × (length images.words ≡ cells)
    × (image_of (of_slot images.slot image_a image_b) ≡ Open images.tick images.words)
    × (image_of (of_slot images.slot image_b image_a) ≡ images.before)

-- if a new keeper is made for an image, the file of that slot holds it, with `cells` words
abbrev pub HoldsNewest : (cells : ℕ) → Option (Slot × ℕ) → (image_a image_b : List ℕ) → Type 0
HoldsNewest cells None image_a image_b = Unit {0}
HoldsNewest cells (Some (slot, tick)) image_a image_b =
    (words : List ℕ) × (length words ≡ cells)
    × (image_of (of_slot slot image_a image_b) ≡ Open tick words)
