-- The words of taken cells.
use Rattle.std.specs.Prelude.{ℕ, Bool, true, false, List, [], ◌∷◌, drop, get_or}
use Rattle.capture_core.specs.declared.taker.Taken.{Taken}
use Rattle.capture_core.specs.declared.taker.Taken.TheVariants.{Word, Same}

-- the word of a taken cell, given the newest image's word
abbrev pub word_of : Taken → ℕ → ℕ
word_of (Word word) old = word
word_of Same old = old

-- the words of taken cells, given the newest image's words
abbrev pub filled_words : List Taken → List ℕ → List ℕ
filled_words [] old = []
filled_words (cell ∷ cells) old = word_of cell (get_or old 0 0) ∷ filled_words cells (drop 1 old)

-- true if some cell's word is to come from the newest image
abbrev pub has_same : List Taken → Bool
has_same [] = false
has_same (Word word ∷ cells) = has_same cells
has_same (Same ∷ cells) = true
