-- A world: a list of numbered words.
use Rattle.std.specs.Prelude.{ℕ, ◌≤◌, List, length, All}
use Rattle.world_actions.specs.declared.world.TheConstants.{LIMIT, CELLS}

-- a number that a cell may hold
abbrev pub IsWord : ℕ → Type 0
IsWord word = word ≤ LIMIT

-- a world: words, at least one and at most `CELLS` of them
pub record IsWorld (words : List ℕ) : Type 0 where
  pub some : 1 ≤ length words
  pub most : length words ≤ CELLS
  pub limit : All IsWord words
