-- The words that takes hand out.
use Rattle.std.specs.Prelude.{ℕ, Option, Some, None}
use Rattle.world_actions.specs.World.{IsWord}
use Rattle.capture_core.specs.declared.taker.Taken.{Taken}
use Rattle.capture_core.specs.declared.taker.Taken.TheVariants.{Word, Same}

-- if a word is handed out, a cell may hold it
abbrev pub IsTakenWord : Taken → Type 0
IsTakenWord (Word word) = IsWord word
IsTakenWord Same = Unit {0}

-- the answer of a take, from the entry that a round left for a cell: its word, or nothing
abbrev pub taken_of : Option ℕ → Taken
taken_of (Some word) = Word word
taken_of None = Same
