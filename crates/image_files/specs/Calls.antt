-- Inside: for the contracts of this crate's private functions.
-- The effect of a step by its phase, and the facts that a call of one of the two files keeps.
use Rattle.std.specs.Prelude.{◌≡◌, ℕ, ◌+◌, ◌*◌, Bool, Option, Some, None, is_some, List, [], ◌∷◌}
use Rattle.std.specs.Prelude.{◌++◌, length, map, IsTrue, nat_lt, if◌then◌else◌, ◌==◌, ◌&&◌}
use Rattle.capture_core.specs.declared.taker.Taken.{Taken}
use Rattle.capture_core.specs.declared.taker.Taken.TheVariants.{Word}
use Rattle.capture_core.specs.Taken.{IsTakenWord}
use Rattle.image_files.specs.declared.format.TheConstants.{HEADER_BYTES, WORD_BYTES}
use Rattle.image_files.specs.declared.phase.Phase.{Phase}
use Rattle.image_files.specs.declared.phase.Phase.TheVariants.{Taking, Reading, Writing, BodySync}
use Rattle.image_files.specs.Image.{Image, words_from}
use Rattle.image_files.specs.Taken.{filled_words, has_same}
use Rattle.image_files.specs.Progress.{Progress, chunk_size, done}
use Rattle.image_files.specs.Keeper.{Fits, TargetEndures}
use Rattle.image_files.specs.Steps.{IsOnlyRead, IsOpenedImage}
use Rattle.disk_model.specs.declared.disk.Disk.{Ghosts}

-- ---- how a call changes the keeper

-- the phase after a take, with these cells in the chunk
abbrev pub after_take : Progress → List Taken → Phase
after_take keeper chunk =
    if nat_lt (length chunk) (chunk_size keeper)
    then Taking else (if is_some keeper.newest && has_same chunk then Reading else Writing)

-- a cell is taken
abbrev pub with_taken_cell : Taken → Progress → Progress
with_taken_cell cell keeper = record keeper {
  chunk = keeper.chunk ++ cell ∷ [];
  phase = after_take keeper (keeper.chunk ++ cell ∷ []);
}

-- the cells of the chunk in work, each with its word, given the bytes of the newest image's file
abbrev pub read_cells : Progress → (newest : List ℕ) → List Taken
read_cells keeper newest =
    map (λ word. Word word)
    (filled_words keeper.chunk
    (words_from newest (HEADER_BYTES + WORD_BYTES * keeper.written) (length keeper.chunk)))

-- the phase after the write of a chunk
abbrev pub after_chunk : Progress → Phase
after_chunk keeper =
    if keeper.written + length keeper.chunk == keeper.cells then BodySync else Taking

-- the chunk in work is written
abbrev pub with_chunk_written : Progress → Progress
with_chunk_written keeper = record keeper {
  phase = after_chunk keeper;
  chunk = [];
  written = keeper.written + length keeper.chunk;
}

-- ---- the effect of a step by its phase

-- the keeper after a take that gave this
abbrev pub TookCell : Option Taken → Progress → Progress → Type 0
TookCell None old new = new ≡ old
TookCell (Some cell) old new = IsTakenWord cell × (new ≡ with_taken_cell cell old)

-- ---- by a call of the target, whatever the newest image's file holds

-- if the two files fit the keeper before the call, they fit it after the call
abbrev pub KeepsFits : Bool → (old new : Progress) → (before after : List ℕ) → Type 0
KeepsFits honest old new before after =
    IsTrue honest → (newest : List ℕ) → Fits old before newest → Fits new after newest

-- the words so far stay
abbrev pub KeepsWords : Bool → (old new : Progress) → (before after : List ℕ) → Type 0
KeepsWords honest old new before after =
    IsTrue honest → (newest : List ℕ) → Fits old before newest
    → done new after newest ≡ done old before newest

-- the phase's claim on the bytes that a crash may leave of the target holds after the call too
abbrev pub KeepsOutcomes : Bool → (old new : Progress) → (before after : List ℕ)
    → (outcomes_before outcomes_after : List ℕ → Type 0) → Type 0
KeepsOutcomes honest old new before after outcomes_before outcomes_after =
    IsTrue honest → (read : Image) (newest : List ℕ) → Fits old before newest
    → TargetEndures old.phase old read before newest outcomes_before
    → TargetEndures new.phase new read after newest outcomes_after

-- the three together
pub record GoesOn {D : Type 0} (disk : Ghosts D) (old new : Progress)
    (before after : D) : Type 0 where
  pub fits : KeepsFits disk.honest old new (disk.content before) (disk.content after)
  pub done : KeepsWords disk.honest old new (disk.content before) (disk.content after)
  pub endures : KeepsOutcomes disk.honest old new (disk.content before) (disk.content after)
      (disk.may_leave before) (disk.may_leave after)

-- the image of the round was opened, and the two files have exchanged their parts
pub record Opens {D : Type 0} (disk : Ghosts D) (old new : Progress)
    (before after : D) (tick : ℕ) : Type 0 where
  pub fits : IsTrue disk.honest → (newest : List ℕ) → Fits old (disk.content before) newest
      → Fits new newest (disk.content after)
  pub opened : IsTrue disk.honest → (newest : List ℕ) → Fits old (disk.content before) newest
      → IsOpenedImage old (done old (disk.content before) newest) (disk.content after)
      (disk.may_leave after) tick

-- ---- by a call of the newest image's file, whatever the target holds

-- the two files still fit the keeper, the words so far stay, and the file is only read
pub record Reads {D : Type 0} (disk : Ghosts D) (old new : Progress)
    (before after : D) : Type 0 where
  pub fits : IsTrue disk.honest → (target : List ℕ) → Fits old target (disk.content before)
      → Fits new target (disk.content after)
  pub done : IsTrue disk.honest → (target : List ℕ) → Fits old target (disk.content before)
      → done new target (disk.content after) ≡ done old target (disk.content before)
  pub stays : IsOnlyRead disk before after
