use Rattle.std.proofs.Common.{◌≡◌, ◌≤◌, ◌+◌, List, ℕ, ◌++◌, All, length}
use Rattle.world_actions.specs.declared.world.TheConstants.{CELLS}
use Rattle.world_actions.specs.World.{IsWord}
use Rattle.world_folder.specs.WordsText.{ListsEach, newlines}
use Rattle.world_folder.proofs.words_text.list_words.Given as goal

-- the words so far, and what listed them
abbrev pub invariant-loop-rest : goal.invariant-loop-rest
invariant-loop-rest l = (front : List ℕ) × (l.fn.text ≡ front ++ l.rest) × ListsEach l.words.items front
    × (l.line ≡ newlines front + 1) × (newlines front ≤ length front) × All IsWord l.words.items × (length l.words.items ≤ CELLS)

abbrev pub decreases-loop-rest : goal.decreases-loop-rest
decreases-loop-rest l = length l.rest
