-- The effect of a step on its keeper and its two disks, by its answer.
use Rattle.std.specs.Prelude.{◌≡◌, ◌⊎◌, ℕ, Bool, Option, Some, None, List, [], ◌∷◌, ◌++◌, length}
use Rattle.std.specs.Prelude.{get_or, true, false, IsTrue, ⊤}
use Rattle.file_format.specs.declared.gate.TheConstants.{CLOSED_GATE}
use Rattle.file_format.specs.declared.format.Format.TheVariants.{Second}
use Rattle.file_format.specs.Format.{marked_in}
use Rattle.capture_core.specs.declared.taker.Taken.{Taken}
use Rattle.disk_model.specs.Disk.{overwritten, Only, Within, FaultsBy, Call, CalledOnce}
use Rattle.disk_model.specs.declared.disk.Disk.{Ghosts}
use Rattle.image_files.specs.declared.phase.Phase.{Phase}
use Rattle.image_files.specs.declared.phase.Phase.TheVariants.{Idle, Taking, Reading, Down}
use Rattle.image_files.specs.declared.answer.ImageAnswer.{ImageAnswer}
use Rattle.image_files.specs.declared.answer.ImageAnswer.TheVariants as answer
use Rattle.image_files.specs.Image.{Image, image_of}
use Rattle.image_files.specs.Taken.{word_of}
use Rattle.image_files.specs.Progress.{Progress, newest_words}

-- ---- by its answer

-- the first fact if the step opened the image, else the second
abbrev pub IfOpened : ImageAnswer → Type 0 → Type 0 → Type 0
IfOpened (answer.Opened tick) P Q = P
IfOpened other P Q = Q

-- a fact of the tick whose image was opened
abbrev pub OnOpened : ImageAnswer → (ℕ → Type 0) → Type 0
OnOpened (answer.Opened tick) P = P tick
OnOpened other P = ⊤

-- a fact of a step after which the round continues
abbrev pub OnWorking : ImageAnswer → Type 0 → Type 0
OnWorking answer.Working P = P
OnWorking other P = ⊤

-- ---- to the disks

-- the disk that is called, once, by phase: none, the newest image's, or the target
abbrev pub CallsIn : Phase → {D : Type 0} → (called : D → Call → Bool → D → Type 0)
    → (target_before target_after newest_before newest_after : D) → Type 0
CallsIn Idle called target_before target_after newest_before newest_after =
    (target_after ≡ target_before) × (newest_after ≡ newest_before)
CallsIn Taking called target_before target_after newest_before newest_after =
    (target_after ≡ target_before) × (newest_after ≡ newest_before)
CallsIn Down called target_before target_after newest_before newest_after =
    (target_after ≡ target_before) × (newest_after ≡ newest_before)
CallsIn Reading called target_before target_after newest_before newest_after =
    (target_after ≡ target_before) × CalledOnce called newest_before newest_after
CallsIn phase called target_before target_after newest_before newest_after =
    CalledOnce called target_before target_after × (newest_after ≡ newest_before)

-- the cause of the answer in the counts of faults: with Down a call failed now or earlier,
-- otherwise no call failed now
abbrev pub HasCause : ImageAnswer → (was : Phase)
    → (target_before target_after newest_before newest_after : ℕ) → Type 0
HasCause answer.Down was target_before target_after newest_before newest_after =
    (was ≡ Down) ⊎ FaultsBy true target_before target_after newest_before newest_after
HasCause other was target_before target_after newest_before newest_after =
    FaultsBy false target_before target_after newest_before newest_after

-- a file with the closed gate written over its first byte
abbrev pub closed : List ℕ → List ℕ
closed file = overwritten file 0 (CLOSED_GATE ∷ [])

-- a file is only read
abbrev pub IsOnlyRead : {D : Type 0} → Ghosts D → (before after : D) → Type 0
IsOnlyRead disk before after =
    IsTrue disk.honest → (disk.content after ≡ disk.content before)
    × Within (disk.may_leave before) (disk.may_leave after)

-- the words after a take: it adds the cell's own word, or else the newest image's word, or 0
-- without an image
abbrev pub TookWord : Option Taken → Progress → (newest done_before done_after : List ℕ) → Type 0
TookWord None keeper newest done_before done_after = done_after ≡ done_before
TookWord (Some cell) keeper newest done_before done_after =
    done_after ≡ done_before
    ++ word_of cell (get_or (newest_words keeper newest) (length done_before) 0) ∷ []

-- the image of the round was opened, durably, with these words, in the second format
pub record IsOpenedImage (keeper : Progress) (words file : List ℕ) (outcomes : List ℕ → Type 0)
    (tick : ℕ) : Type 0 where
  pub of_the_round : tick ≡ keeper.tick
  pub image : image_of file ≡ Image.Open tick words
  pub whole : length words ≡ keeper.cells
  pub mark : marked_in file ≡ Some (Second, keeper.cells)
  pub durable : Only file outcomes
