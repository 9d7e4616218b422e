-- The content of a store as contracts see it, and the effect of each call on it.
use Rattle.std.specs.Prelude.{◌≡◌, ◌⊎◌, ℕ, Bool, true, false, List, [], ◌∷◌, Option, Some, None}
use Rattle.std.specs.Prelude.{length, drop, map, replicate, option_map, slice_get, slice_set}
use Rattle.world_actions.specs.Effect.{Write, written}
use Rattle.capture_core.specs.declared.taker.Taken.{Taken}
use Rattle.capture_core.specs.Taken.{taken_of}

-- The words, and a flag for each cell that says if it is touched. For each cell that the open round
-- has left, its word or nothing.
pub record Content : Type 0 where
  pub live : List ℕ
  pub touched : List Bool
  pub left : List (Option ℕ)

-- the content in which every cell is touched, and these words are left
abbrev pub all_touched : List ℕ → List ℕ → Content
all_touched live rest =
    record { live = live; touched = replicate (length live) true; left = map Some rest }

-- the flags of touched cells after these writes
abbrev pub touched_after : List Bool → List Write → List Bool
touched_after touched [] = touched
touched_after touched (write ∷ writes) = touched_after (slice_set touched write.cell true) writes

-- the content after these writes: they change live words and touch their cells, and the cells that
-- are left of the round stay
abbrev pub content_after : Content → List Write → Content
content_after store writes = record {
  live = written store.live writes;
  touched = touched_after store.touched writes;
  left = store.left;
}

-- A mark opens a round of all cells, and keeps the live words. The round has the live word of each
-- touched cell, and the live word or nothing for each other cell.
pub record Marks (old new : Content) : Type 0 where
  pub live : new.live ≡ old.live
  pub cells : length new.left ≡ length old.live
  pub left : (i word : ℕ) → slice_get old.live i ≡ Some word →
      (slice_get new.left i ≡ Some (Some word))
      ⊎ ((slice_get new.left i ≡ Some None) × (slice_get old.touched i ≡ Some false))

-- a take hands out the first of the cells that are left, or nothing if none is left;
-- the others stay
pub record Takes (old : Content) (answer : Option Taken) (new : Content) : Type 0 where
  pub gives : answer ≡ option_map taken_of (slice_get old.left 0)
  pub rest : new ≡ record old { left = drop 1 old.left }

-- an image has the live word of each untouched cell
abbrev pub Covers : List ℕ → Content → Type 0
Covers image store =
    (i : ℕ) → slice_get store.touched i ≡ Some false → slice_get image i ≡ slice_get store.live i
