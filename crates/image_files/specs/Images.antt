-- The contents of the two image files as plain data, whatever a crash leaves of them.
use Rattle.std.specs.Prelude.{◌≡◌, ◌⊎◌, ℕ, List, [], ◌∷◌, ◌++◌, length, get_or, Option, Some, None}
use Rattle.std.specs.Prelude.{option_map}
use Rattle.file_format.specs.declared.slot.Slot.{Slot}
use Rattle.file_format.specs.declared.slot.Slot.TheVariants.{A}
use Rattle.file_format.specs.Slot.{other_slot, in_slot, beside_slot}
use Rattle.capture_core.specs.declared.taker.Taken.{Taken}
use Rattle.image_files.specs.declared.answer.ImageAnswer.{ImageAnswer}
use Rattle.image_files.specs.declared.answer.ImageAnswer.TheVariants as answer
use Rattle.image_files.specs.Image.{Image, image_of}
use Rattle.image_files.specs.Image.Image.{Closed, Open}
use Rattle.image_files.specs.Taken.{word_of}

-- a round in work: its tick and the words taken so far
pub record Round : Type 0 where
  pub tick : ℕ
  pub taken : List ℕ

-- the newest image's file, its tick and words, the reading of the other file before the round in
-- work, and that round
pub record Images : Type 0 where
  pub slot : Slot
  pub tick : ℕ
  pub words : List ℕ
  pub before : Image
  pub round : Option Round

-- before there is an image: the round that makes the first one, in image.a
pub record FirstImages : Type 0 where
  pub round : Option Round

-- the two files, before there is an image and since
pub data ImageFiles : Type 0 where
  NoneYet : FirstImages → ImageFiles
  Newest : Images → ImageFiles

-- ---- the possible remains

-- The target reads as before. While a round is in work it may also be closed, or open at the
-- round's tick with a word for each cell.
abbrev pub IsTarget : (cells : ℕ) → (before : Image) → Option Round → (now : Image) → Type 0
IsTarget cells before None now = now ≡ before
IsTarget cells before (Some round) now =
    (now ≡ before)
    ⊎ ((now ≡ Closed) ⊎ ((now ≡ Open round.tick round.taken) × (length round.taken ≡ cells)))

-- the newest image stays, and the other file is the round's target
pub record ImagesAre (cells : ℕ) (images : Images)
    (image_a image_b : List ℕ → Type 0) : Type 0 where
  pub newest : (left : List ℕ) → in_slot images.slot image_a image_b left
      → image_of left ≡ Open images.tick images.words
  pub target : (left : List ℕ) → beside_slot images.slot image_a image_b left
      → IsTarget cells images.before images.round (image_of left)

-- image.a was closed before the round and is its target, and image.b is closed
pub record FirstImagesAre (cells : ℕ) (images : FirstImages)
    (image_a image_b : List ℕ → Type 0) : Type 0 where
  pub target : (left : List ℕ) → image_a left → IsTarget cells Closed images.round (image_of left)
  pub beside : (left : List ℕ) → image_b left → image_of left ≡ Closed

-- both cases: before there is an image, and since
abbrev pub ImageFilesAre : (cells : ℕ) → ImageFiles → (image_a image_b : List ℕ → Type 0) → Type 0
ImageFilesAre cells (NoneYet images) image_a image_b = FirstImagesAre cells images image_a image_b
ImageFilesAre cells (Newest images) image_a image_b = ImagesAre cells images image_a image_b

-- ---- the definitions

-- the newest image's file, and its tick
abbrev pub newest_in : ImageFiles → Option (Slot × ℕ)
newest_in (NoneYet images) = None
newest_in (Newest images) = Some (images.slot, images.tick)

-- the round in work
abbrev pub round_in : ImageFiles → Option Round
round_in (NoneYet images) = images.round
round_in (Newest images) = images.round

-- ---- how they change

-- a round begins
abbrev pub with_round : (tick : ℕ) → ImageFiles → ImageFiles
with_round tick (NoneYet images) =
    NoneYet (record { round = Some (record { tick = tick; taken = [] }) })
with_round tick (Newest images) =
    Newest (record images { round = Some (record { tick = tick; taken = [] }) })

-- a cell is taken: its own word is added, or the newest image's word of that cell, or 0
-- if there is none
abbrev pub with_cell : Taken → (newest : List ℕ) → Round → Round
with_cell cell newest round =
    record round { taken = round.taken ++ word_of cell (get_or newest (length round.taken) 0) ∷ [] }

-- the image files after a take
abbrev pub with_taken : Taken → ImageFiles → ImageFiles
with_taken cell (NoneYet images) =
    NoneYet (record { round = option_map (with_cell cell []) images.round })
with_taken cell (Newest images) =
    Newest (record images { round = option_map (with_cell cell images.words) images.round })

-- the round's image is opened: it is the newest one, and the other file holds the image that was
-- the newest before
abbrev pub with_opened : Round → ImageFiles → ImageFiles
with_opened round (NoneYet images) =
    Newest
    (record { slot = A; tick = round.tick; words = round.taken; before = Closed; round = None })
with_opened round (Newest images) =
    Newest (record {
      slot = other_slot images.slot;
      tick = round.tick;
      words = round.taken;
      before = Open images.tick images.words;
      round = None;
    })

-- The effect of a step with this answer on the image files and on the round's taker. `took` says
-- how a take leads from one state of the taker to the next.
abbrev pub StepsImages : {S : Type 0} → (took : S → Option Taken → S → Type 0) → (cells : ℕ)
    → ImageFiles → ImageAnswer → ImageFiles → (old new : S) → Type 0
StepsImages took cells images answer.Idle next old new =
    (round_in images ≡ None) × (next ≡ images) × (new ≡ old)
StepsImages took cells images answer.Working next old new =
    (round : Round) × (round_in images ≡ Some round)
    × (((next ≡ images) × (new ≡ old))
    ⊎ ((cell : Taken) × took old (Some cell) new × (next ≡ with_taken cell images)))
StepsImages took cells images (answer.Opened tick) next old new =
    (round : Round) × (round_in images ≡ Some round) × (tick ≡ round.tick)
    × (length round.taken ≡ cells) × (next ≡ with_opened round images) × (new ≡ old)
StepsImages took cells images answer.Down next old new =
    (round : Round) × (round_in images ≡ Some round) × (next ≡ images) × (new ≡ old)
