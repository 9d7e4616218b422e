-- The bits of a word, and the marks in words, after each change.
use Rattle.std.proofs.Common.{zero, suc, ◌≡◌, ◌≢◌, ℕ, ◌-◌, ◌*◌, ◌^◌, ◌<◌, ◌≤◌, ◌/◌, ◌%◌, eqb, not, List, ◌++◌, length, take}
use Rattle.std.proofs.Common.{replicate, get_or, set, min, sym, refl, ap, ◌∙◌, arith, true, false, eq-eqb, bit_and, bit_or, w64}
use Rattle.std.proofs.Common.{get_or-set_other, get_or-set_same, shl_exact, one-mul, lit<}
use Rattle.std.proofs.lemmas.List.{get_or-replicate}
use Rattle.std.proofs.lemmas.Nat.Bits.{bit_at_set_same, bit_at_set_other, bit_at_clear_same, bit_at_clear_other, bit_at-zero}
use Rattle.std.proofs.lemmas.Nat.Bits.{bit_at_ones, bit_at_ones_above, bit_at_and, bit_at_not, bit_at-lt, shr_and_one}
use Rattle.std.proofs.Math.Seq.{take-append_seam}
use Rattle.std.specs.Int.{bit_at, bit_not}
use mathlib.Core.Logic.{dite}
use native.Mathlib.Decide.{ℕ_discrete}
use Rattle.packed_marks.specs.Bits.{chunks, is_set, marked, AreSpareClear, IsFull}

-- ---- one bit of a word

pub set_same : (w j : ℕ) → j < 64 → is_set (bit_or w (1 * 2 ^ j % 2 ^ 64)) j ≡ true
unfolding is_set
set_same w j l = eq-eqb (bit_at (bit_or w (1 * 2 ^ j % 2 ^ 64)) j) 1 (bit_at_set_same w64 w j l)

pub set_other : (w j i : ℕ) → j < 64 → i ≢ j → is_set (bit_or w (1 * 2 ^ j % 2 ^ 64)) i ≡ is_set w i
unfolding is_set
set_other w j i l ne = ap (λ (z : ℕ). eqb z 1) (bit_at_set_other w64 w j l i ne)

pub clear_same : (w j : ℕ) → j < 64 → is_set (bit_and w (bit_not w64 (1 * 2 ^ j % 2 ^ 64))) j ≡ false
unfolding is_set
clear_same w j l = ap (λ (z : ℕ). eqb z 1) (bit_at_clear_same w64 w j l)

pub clear_other : (w j i : ℕ) → j < 64 → i < 64 → i ≢ j → is_set (bit_and w (bit_not w64 (1 * 2 ^ j % 2 ^ 64))) i ≡ is_set w i
unfolding is_set
clear_other w j i l k ne = ap (λ (z : ℕ). eqb z 1) (bit_at_clear_other w64 w j l i k ne)

-- the test of a bit
pub tests_bit : (w j : ℕ) → eqb (bit_and (w / 2 ^ j) 1) 1 ≡ is_set w j
unfolding is_set
tests_bit w j = ap (λ (z : ℕ). eqb z 1) (shr_and_one w j)

-- ---- all bits of a word

-- none is set in 0
pub zero_clear : (j : ℕ) → is_set 0 j ≡ false
unfolding is_set
zero_clear j = ap (λ (z : ℕ). eqb z 1) (bit_at-zero j)

-- each bit is set in the word of ones
pub ones_set : (j : ℕ) → j < 64 → is_set 18446744073709551615 j ≡ true
unfolding is_set
ones_set j l = eq-eqb (bit_at 18446744073709551615 j) 1 (bit_at_ones 64 j l)

-- the opposite of a bit, as a number and as a truth
opposite : (b : ℕ) → b < 2 → eqb (1 - b) 1 ≡ not (eqb b 1)
opposite zero l = refl
opposite (suc zero) l = refl
opposite (suc (suc b)) l = absurd (omega arith)

-- the complement of a word has the opposite bits
pub complement_set : (w j : ℕ) → w < 2 ^ 64 → j < 64 → is_set (bit_not w64 w) j ≡ not (is_set w j)
unfolding is_set
complement_set w j fits l = ap (λ (z : ℕ). eqb z 1) (bit_at_not w64 w j fits l) ∙ opposite (bit_at w j) (bit_at-lt w j)

-- the mask of the low k bits
low_mask : (k : ℕ) → k < 64 → 1 * 2 ^ k % 2 ^ 64 ≡ 2 ^ k
low_mask k l = shl_exact {a = 1} 1 k 64 (lit< tt) (omega arith) ∙ one-mul (2 ^ k)

-- the mask leaves the bits below k
pub masked_low : (w k j : ℕ) → k < 64 → j < k → is_set (bit_and w (1 * 2 ^ k % 2 ^ 64 - 1)) j ≡ is_set w j
unfolding is_set
masked_low w k j l m =
    let bit : bit_at (2 ^ k - 1) j ≡ 1 = bit_at_ones k j m in
    let less = bit_at-lt w j in
    let same : min (bit_at w j) (bit_at (2 ^ k - 1) j) ≡ bit_at w j = omega arith in
    ap (λ (z : ℕ). eqb (bit_at (bit_and w (z - 1)) j) 1) (low_mask k l) ∙ ap (λ (z : ℕ). eqb z 1) (bit_at_and w (2 ^ k - 1) j ∙ same)

-- the mask clears the bits from k on
pub masked_high : (w k j : ℕ) → k < 64 → k ≤ j → is_set (bit_and w (1 * 2 ^ k % 2 ^ 64 - 1)) j ≡ false
unfolding is_set
masked_high w k j l m =
    let bit : bit_at (2 ^ k - 1) j ≡ 0 = bit_at_ones_above k j m in
    let same : min (bit_at w j) (bit_at (2 ^ k - 1) j) ≡ 0 = omega arith in
    ap (λ (z : ℕ). eqb (bit_at (bit_and w (z - 1)) j) 1) (low_mask k l) ∙ ap (λ (z : ℕ). eqb z 1) (bit_at_and w (2 ^ k - 1) j ∙ same)

-- ---- marks in words

-- if a word is replaced, the marks of other words stay
pub marked_else : (words : List ℕ) (k v j : ℕ) → j / 64 ≢ k → marked (set words k v) j ≡ marked words j
marked_else words k v j ne = ap (λ (z : ℕ). is_set z (j % 64)) (get_or-set_other words k (j / 64) v 0 ne)

-- if a word is replaced, its own marks are the bits of the new word
pub marked_here : (words : List ℕ) (k v j : ℕ) → k < length words → j / 64 ≡ k → marked (set words k v) j ≡ is_set v (j % 64)
marked_here words k v j l e = ap (λ (z : ℕ). is_set (get_or (set words k v) z 0) (j % 64)) e ∙ ap (λ (z : ℕ). is_set z (j % 64)) (get_or-set_same words k v 0 l)

-- the marks of a list of one word
pub marked-replicate : (m w i : ℕ) → i / 64 < m → marked (replicate m w) i ≡ is_set w (i % 64)
marked-replicate m w i l = ap (λ (z : ℕ). is_set z (i % 64)) (get_or-replicate m (i / 64) w 0 l)

-- the mask of the last word leaves the marks of the cells
pub spare_cells : (words : List ℕ) (n i : ℕ) → length words ≡ chunks n → n % 64 ≢ 0 → i < n →
    marked (set words (n / 64) (bit_and (get_or words (n / 64) 0) (1 * 2 ^ (n % 64) % 2 ^ 64 - 1))) i ≡ marked words i
spare_cells words n i long ne l =
    let mask : ℕ = 1 * 2 ^ (n % 64) % 2 ^ 64 - 1 in
    dite (ℕ_discrete (i / 64) (n / 64))
    (λ here. marked_here words (n / 64) (bit_and (get_or words (n / 64) 0) mask) i (omega arith) here
    ∙ (masked_low (get_or words (n / 64) 0) (n % 64) (i % 64) (omega arith) (omega arith)
    ∙ ap (λ (z : ℕ). is_set (get_or words z 0) (i % 64)) (sym here)))
    (λ no. marked_else words (n / 64) (bit_and (get_or words (n / 64) 0) mask) i no)

-- the mask of the last word clears the bits past the cells
pub spare_clear : (words : List ℕ) (n i : ℕ) → length words ≡ chunks n → n % 64 ≢ 0 → n ≤ i → i < 64 * length words →
    marked (set words (n / 64) (bit_and (get_or words (n / 64) 0) (1 * 2 ^ (n % 64) % 2 ^ 64 - 1))) i ≡ false
spare_clear words n i long ne l m =
    marked_here words (n / 64) (bit_and (get_or words (n / 64) 0) (1 * 2 ^ (n % 64) % 2 ^ 64 - 1)) i (omega arith) (omega arith)
    ∙ masked_high (get_or words (n / 64) 0) (n % 64) (i % 64) (omega arith) (omega arith)

-- a slice of all of a vector is written back whole
pub written_back : (n : ℕ) (new rest : List ℕ) → length new ≡ n → take n (new ++ rest) ≡ new
written_back n new rest e = ap (λ (z : ℕ). take z (new ++ rest)) (sym e) ∙ take-append_seam new rest

-- ones with the spare bits cleared are full
pub full-cleared : (n : ℕ) (ones words : List ℕ) → ones ≡ replicate (chunks n) 18446744073709551615 → length words ≡ chunks n →
    ((i : ℕ) → i < n → marked words i ≡ marked ones i) → AreSpareClear n words → IsFull n words
full-cleared n ones words e long cells spare = record {
  words_length = long;
  cells = λ i l. cells i l ∙ ap (λ (z : List ℕ). marked z i) e ∙ (marked-replicate (chunks n) 18446744073709551615 i (omega arith) ∙ ones_set (i % 64) (omega arith));
  spare = spare;
}
