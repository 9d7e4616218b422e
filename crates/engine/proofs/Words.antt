-- The words of a store, one after another.
use Rattle.std.proofs.Common.{rules}
use Rattle.std.proofs.Common.{arith, ◌≡◌, ℕ, ◌+◌, ◌<◌, ◌≤◌, List, [], ◌∷◌, ◌++◌, length, take, slice_index, ◌∙◌}
use Rattle.std.proofs.lemmas.List.{take_more, take_all}

-- the next word is after those before it
pub one_more : (words now items : List ℕ) (i word : ℕ) → i < length words → now ≡ words → items ≡ take i words → word ≡ slice_index now i
    → items ++ word ∷ [] ≡ take (i + 1) words
one_more words now items i word below same front is = search (rules, slice_index, take_more)

-- the last one ends them
pub whole : (words items : List ℕ) (i cells : ℕ) → cells ≡ length words → cells ≤ i → items ≡ take i words → items ≡ words
whole words items i cells all end front = (let long : length words ≤ i = omega (arith, all, end) in front ∙ take_all i words long)
