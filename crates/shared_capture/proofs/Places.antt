-- Places in the table, and lists that grow at their end.
use Rattle.std.proofs.Common.{◌≡◌, ◌≢◌, ℕ, ◌+◌, ◌-◌, ◌<◌, ◌≤◌, ◌⊎◌, Bool, zero, suc, List, [], ◌∷◌, ◌++◌, length, replicate, Some, sym, refl, ap, ⊎_elim, inl, inr, arith, true, false, not}
use Rattle.std.proofs.lemmas.Option.{none-some, same_Some}
use Rattle.std.specs.List.{slice_get}
use Rattle.capture_core.specs.declared.taker.Taken.{Taken}
use Rattle.capture_core.specs.declared.taker.Taken.TheVariants.{Same}
use Rattle.packed_marks.specs.Bits.{chunks}
use Rattle.shared_capture.specs.Rounds.{padded}
use Rattle.shared_capture.specs.Table.{cell_place, mark_place}

pub not_apart : (b : Bool) → b ≢ not b
not_apart true e = absurd (Rattle.std.proofs.lemmas.Bool.true≢false e)
not_apart false e = absurd (Rattle.std.proofs.lemmas.Bool.true≢false (sym e))

-- ## Places

pub cell_not_phase : (n : ℕ) (b : Bool) (i : ℕ) → 0 ≢ cell_place n b i
cell_not_phase n true i e = absurd (omega arith)
cell_not_phase n false i e = absurd (omega arith)

pub mark_not_phase : (n : ℕ) (b : Bool) (k : ℕ) → 0 ≢ mark_place n b k
mark_not_phase n true k e = absurd (omega arith)
mark_not_phase n false k e = absurd (omega arith)

pub mark_not_cell : (n : ℕ) (b c : Bool) (i k : ℕ) → i < n → mark_place n c k ≢ cell_place n b i
mark_not_cell n true true i k l e = absurd (omega arith)
mark_not_cell n true false i k l e = absurd (omega arith)
mark_not_cell n false true i k l e = absurd (omega arith)
mark_not_cell n false false i k l e = absurd (omega arith)

pub cell_not_mark : (n : ℕ) (b c : Bool) (i k : ℕ) → i < n → cell_place n b i ≢ mark_place n c k
cell_not_mark n b c i k l e = mark_not_cell n b c i k l (sym e)

pub cell_inside : (n : ℕ) (b : Bool) (i : ℕ) → i < n → cell_place n b i < 1 + n + n + chunks n + chunks n
cell_inside n true i l = omega arith
cell_inside n false i l = omega arith

pub mark_inside : (n : ℕ) (b : Bool) (k : ℕ) → k < chunks n → mark_place n b k < 1 + n + n + chunks n + chunks n
mark_inside n true k l = omega arith
mark_inside n false k l = omega arith

pub cell_one : (n : ℕ) (b c : Bool) (i j : ℕ) → i < n → j < n → cell_place n c j ≡ cell_place n b i → (j ≡ i) × (c ≡ b)
cell_one n true true i j l m e = (omega arith, refl)
cell_one n true false i j l m e = absurd (omega arith)
cell_one n false true i j l m e = absurd (omega arith)
cell_one n false false i j l m e = (omega arith, refl)

pub mark_one : (n : ℕ) (b c : Bool) (i j : ℕ) → i < chunks n → j < chunks n → mark_place n c j ≡ mark_place n b i → (j ≡ i) × (c ≡ b)
mark_one n true true i j l m e = (omega arith, refl)
mark_one n true false i j l m e = absurd (omega arith)
mark_one n false true i j l m e = absurd (omega arith)
mark_one n false false i j l m e = (omega arith, refl)

-- ## Lists that grow at their end

module _ {A : Type 0} where
  pub at_end : (l : List A) (a b : A) (j : ℕ) → slice_get (l ++ a ∷ []) j ≡ Some b → (slice_get l j ≡ Some b) ⊎ ((j ≡ length l) × (a ≡ b))
  at_end [] a b zero e = inr (refl, same_Some a b e)
  at_end [] a b (suc j) e = absurd (none-some b e)
  at_end (x ∷ xs) a b zero e = inl e
  at_end (x ∷ xs) a b (suc j) e = ⊎_elim inl (λ t. inr (ap suc t.0, t.1)) (at_end xs a b j e)

  pub at_longer : (l m : List A) (i : ℕ) (a : A) → slice_get l i ≡ Some a → slice_get (l ++ m) i ≡ Some a
  at_longer [] m i a e = absurd (none-some a e)
  at_longer (x ∷ xs) m zero a e = e
  at_longer (x ∷ xs) m (suc i) a e = at_longer xs m i a e

  pub at_last : (l : List A) (a : A) (n : ℕ) → length l ≡ n → slice_get (l ++ a ∷ []) n ≡ Some a
  at_last [] a zero e = refl
  at_last [] a (suc n) e = absurd (omega arith)
  at_last (x ∷ xs) a zero e = absurd (omega arith)
  at_last (x ∷ xs) a (suc n) e = at_last xs a n (omega arith)

-- ## Unchanged cells at the end

at_same : (m j : ℕ) (t : Taken) → slice_get (replicate m Same) j ≡ Some t → (j < m) × (t ≡ Same)
at_same zero j t e = absurd (none-some t e)
at_same (suc m) zero t e = (omega arith, sym (same_Some Same t e))
at_same (suc m) (suc j) t e = let r = at_same m j t e in (omega (arith, r.0), r.1)

at_joined : (l : List Taken) (m j : ℕ) (t : Taken) → slice_get (l ++ replicate m Same) j ≡ Some t → (slice_get l j ≡ Some t) ⊎ ((length l ≤ j) × (j < length l + m) × (t ≡ Same))
at_joined [] m j t e = let r = at_same m j t e in inr (omega arith, omega (arith, r.0), r.1)
at_joined (x ∷ xs) m zero t e = inl e
at_joined (x ∷ xs) m (suc j) t e = ⊎_elim inl (λ r. inr (omega (arith, r.0), omega (arith, r.1), r.2)) (at_joined xs m j t e)

-- a cell of the padded list is one that was taken, or is unchanged
pub at_padded : (l : List Taken) (i j : ℕ) (t : Taken) → slice_get (padded i l) j ≡ Some t → (slice_get l j ≡ Some t) ⊎ ((length l ≤ j) × (j < i) × (t ≡ Same))
at_padded l i j t e = ⊎_elim inl (λ r. inr (r.0, omega (arith, r.0, r.1), r.2)) (at_joined l (i - length l) j t e)
