-- Mark words: those of a new table, those that are 0, and the change of one of them.
use Rattle.std.proofs.Common.{◌≡◌, ℕ, ◌/◌, ◌%◌, List, length, replicate, sym, ap, ◌∙◌, subst, arith, false}
use Rattle.std.proofs.lemmas.List.{length-replicate, get_or_past}
use mathlib.Core.Logic.{dite}
use native.Mathlib.Decide.{dec_lt}
use Rattle.packed_marks.specs.Bits.{is_set, marked, IsFull}
use Rattle.packed_marks.specs.Marks.{IsPacked}
use Rattle.packed_marks.proofs.BitLemmas.{marked-replicate, zero_clear}
use Rattle.packed_marks.proofs.MarkLemmas.{packed-clear}

-- in mark words that are 0 no cell is marked
pub none_marked : (n i : ℕ) → marked (replicate n 0) i ≡ false
none_marked n i = dite (dec_lt (i / 64) n)
    (λ l. marked-replicate n 0 i l ∙ zero_clear (i % 64))
    (λ l. ap (λ (z : ℕ). is_set z (i % 64)) (get_or_past (replicate n 0) (i / 64) 0 (omega (arith, length-replicate {A = ℕ} n 0))) ∙ zero_clear (i % 64))

-- as many of them as there were are those of n cells
pub zeros_packed : (n : ℕ) (marks : List ℕ) → IsPacked n marks → IsPacked n (replicate (length marks) 0)
zeros_packed n marks ok = subst (λ (z : ℕ). IsPacked n (replicate z 0)) (sym ok.words_length) (packed-clear n)

pub full_packed : (n : ℕ) (marks : List ℕ) → IsFull n marks → IsPacked n marks
full_packed n marks full = record { words_length = full.words_length; spare = full.spare }
