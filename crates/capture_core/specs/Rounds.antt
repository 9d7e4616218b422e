-- The images of rounds.
use Rattle.std.specs.Prelude.{ℕ, ◌<◌, List, Option, Some, None, slice_set}
use Rattle.world_actions.specs.World.{IsWord}
use Rattle.world_actions.specs.Effect.{Write}
use Rattle.capture_core.specs.declared.taker.Taken.{Taken}
use Rattle.capture_core.specs.declared.taker.Taken.TheVariants.{Word, Same}

-- an image after a take of this cell
abbrev pub with_taken : List ℕ → ℕ → Option Taken → List ℕ
with_taken image i (Some (Word word)) = slice_set image i word
with_taken image i (Some Same) = image
with_taken image i None = image

-- a cell of a world of this length, and a word for it
abbrev pub IsChange : ℕ → ℕ × ℕ → Type 0
IsChange cells change = (change.0 < cells) × IsWord change.1

-- the write of a cell and its word
abbrev pub write_of : ℕ × ℕ → Write
write_of change = record { cell = change.0; word = change.1 }
