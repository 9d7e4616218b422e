-- Which cells count as touched by some mark words.
use Rattle.std.proofs.Common.{◌≡◌, ◌≢◌, ℕ, ◌+◌, ◌<◌, ◌≤◌, zero, suc, List, ◌∷◌, length, replicate, set, sym, refl, ap, ◌∙◌, arith, true, zero-add}
use Rattle.packed_marks.specs.Bits.{marked}
use Rattle.shared_capture.specs.declared.method.Kind.{Kind}
use Rattle.shared_capture.specs.Methods.{is_word, touched_from, touched_of}
use Rattle.shared_capture.specs.Rounds.{flag_at}

pub length_touched : (kind : Kind) (n i : ℕ) (marks : List ℕ) → length (touched_from kind n i marks) ≡ n
length_touched kind zero i marks = refl
length_touched kind (suc n) i marks = ap suc (length_touched kind n (suc i) marks)

touched_from_at : (kind : Kind) (n i j : ℕ) (marks : List ℕ) → j < n → flag_at (touched_from kind n i marks) j ≡ is_word kind (marked marks (i + j))
touched_from_at kind zero i j marks l = absurd (omega arith)
touched_from_at kind (suc n) i zero marks l = let e : i ≡ i + 0 = omega arith in ap (λ (z : ℕ). is_word kind (marked marks z)) e
touched_from_at kind (suc n) i (suc j) marks l = (let e : suc i + j ≡ i + suc j = omega arith in touched_from_at kind n (suc i) j marks (omega arith) ∙ ap (λ (z : ℕ). is_word kind (marked marks z)) e)

pub touched_at : (kind : Kind) (n j : ℕ) (marks : List ℕ) → j < n → flag_at (touched_of kind n marks) j ≡ is_word kind (marked marks j)
touched_at kind n j marks l = touched_from_at kind n 0 j marks l ∙ ap (λ (z : ℕ). is_word kind (marked marks z)) (zero-add j)

-- marks by which the same cells count as touched
pub touched_same : (kind : Kind) (n i : ℕ) (xs ys : List ℕ)
    → ((j : ℕ) → i ≤ j → j < i + n → is_word kind (marked xs j) ≡ is_word kind (marked ys j)) → touched_from kind n i xs ≡ touched_from kind n i ys
touched_same kind zero i xs ys same = refl
touched_same kind (suc n) i xs ys same = λ k. same i (omega arith) (omega arith) k ∷ touched_same kind n (suc i) xs ys (λ j l m. same j (omega arith) (omega arith)) k

-- one more cell is marked
touched_more : (kind : Kind) (n i at : ℕ) (xs ys : List ℕ) → is_word kind (marked ys (i + at)) ≡ true
    → ((j : ℕ) → j ≢ i + at → is_word kind (marked ys j) ≡ is_word kind (marked xs j)) → touched_from kind n i ys ≡ set (touched_from kind n i xs) at true
touched_more kind zero i at xs ys here others = refl
touched_more kind (suc n) i zero xs ys here others =
    let e : i ≡ i + 0 = omega arith in λ k. (ap (λ (z : ℕ). is_word kind (marked ys z)) e ∙ here) k ∷ touched_same kind n (suc i) ys xs (λ j l m. others j (λ e. absurd (omega arith))) k
touched_more kind (suc n) i (suc at) xs ys here others = let e : suc i + at ≡ i + suc at = omega arith in λ k. others i (λ e. absurd (omega arith)) k
    ∷ touched_more kind n (suc i) at xs ys (ap (λ (z : ℕ). is_word kind (marked ys z)) e ∙ here) (λ j ne. others j (λ e. ne (omega arith))) k

pub touched_set : (kind : Kind) (n at : ℕ) (xs ys : List ℕ) → is_word kind (marked ys at) ≡ true
    → ((j : ℕ) → j ≢ at → is_word kind (marked ys j) ≡ is_word kind (marked xs j)) → touched_of kind n ys ≡ set (touched_of kind n xs) at true
touched_set kind n at xs ys here others =
    let e : 0 + at ≡ at = omega arith in touched_more kind n 0 at xs ys (ap (λ (z : ℕ). is_word kind (marked ys z)) e ∙ here) (λ j ne. others j (λ h. ne (h ∙ sym e)))

-- every cell counts as touched
pub touched_full : (kind : Kind) (n i : ℕ) (xs : List ℕ) → ((j : ℕ) → j < i + n → is_word kind (marked xs j) ≡ true) → touched_from kind n i xs ≡ replicate n true
touched_full kind zero i xs all = refl
touched_full kind (suc n) i xs all = λ k. all i (omega arith) k ∷ touched_full kind n (suc i) xs (λ j l. all j (omega arith)) k
