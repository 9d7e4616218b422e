use Rattle.std.specs.Bool.{Decides}
use Rattle.std.specs.Result.{OkIff, result_ok}
use Rattle.std.proofs.Common.{arith, refl, ap, sym, subst, ◌∙◌, ◌≡◌, ℕ, zero, suc, ◌-◌, ◌<◌, ◌≤◌, List, Bool, true, false, Option}
use Rattle.std.proofs.Common.{Some, None, Result, Ok, Err, ◌⊎◌, inl, inr, ℤ, pos, negsuc, unsigned_abs}
use Rattle.std.proofs.Math.Nat.{eq-or-lt_of_le}
use Rattle.std.proofs.lemmas.Int.{ints}
use Rattle.std.proofs.lemmas.Slice.Eq.{bytes_eq-Decides}
use Rattle.std.specs.Str.{bytes_eq}
use Rattle.line_grammar.specs.Reading.{IsReading}

-- a fact that holds, or doesn't
abbrev pub Decision : Type 0 → Type 0
Decision P = P ⊎ (P → ⊥)

-- a text has one reading, if no two values are spelled the same
pub reading_unique : {A : Type 0} (spelling : A → List ℕ) (IsInBounds : A → Type 0)
    → ((a b : A) → IsInBounds a → IsInBounds b → spelling a ≡ spelling b → a ≡ b)
    → (text : List ℕ) (r s : Option A) → IsReading spelling IsInBounds text r → IsReading spelling IsInBounds text s → r ≡ s
reading_unique spelling IsInBounds injective text None None first second = refl
reading_unique spelling IsInBounds injective text None (Some b) first second = absurd (first b second.0 second.1)
reading_unique spelling IsInBounds injective text (Some a) None first second = absurd (second a first.0 first.1)
reading_unique spelling IsInBounds injective text (Some a) (Some b) first second =
    ap Some (injective a b first.0 second.0 (sym first.1 ∙ second.1))

-- a text has a reading, if it is decided whether the text is the spelling of a value
pub reading_exists : {A : Type 0} (spelling : A → List ℕ) (IsInBounds : A → Type 0) (text : List ℕ)
    → Decision ((a : A) × IsInBounds a × (text ≡ spelling a)) → (reading : Option A) × IsReading spelling IsInBounds text reading
reading_exists spelling IsInBounds text (inl found) = (Some found.0, (found.1, found.2))
reading_exists spelling IsInBounds text (inr none) = (None, λ a bounds is. none (a, bounds, is))

-- a conversion that succeeds if P holds reads the text
pub reading_converted : {A E P : Type 0} (spelling : A → List ℕ) (IsInBounds : A → Type 0) (text : List ℕ) (a : A) (r : Result A E)
    → OkIff r P a → text ≡ spelling a → (P → IsInBounds a) → ((b : A) → IsInBounds b → spelling a ≡ spelling b → P)
    → IsReading spelling IsInBounds text (result_ok r)
reading_converted spelling IsInBounds text a (Ok b) converted is bounds back =
    (subst IsInBounds (sym converted.1) (bounds converted.0), is ∙ ap spelling (sym converted.1))
reading_converted spelling IsInBounds text a (Err e) converted is bounds back =
    λ b inside other. converted (back b inside (sym is ∙ other))

-- the two cases of a test
decided : {P : Type 0} (r : Bool) → Decides r P → Decision P
decided true decides = inl (decides.0 refl)
decided false decides = inr (λ p. let yes = decides.1 p in cc)

-- the decision if two texts are the same
pub same_text : (xs ys : List ℕ) → Decision (xs ≡ ys)
same_text xs ys = decided (bytes_eq xs ys) (bytes_eq-Decides xs ys)

-- one number more below the bound
bounded_more : (P : ℕ → Type 0) (k : ℕ) → Decision (P k) → Decision ((n : ℕ) × (n < k) × P n) → Decision ((n : ℕ) × (n < suc k) × P n)
bounded_more P k (inl holds) below = inl (k, omega arith, holds)
bounded_more P k (inr fails) (inl found) = let less = found.1 in inl (found.0, omega (arith, less), found.2)
bounded_more P k (inr fails) (inr none) = inr (λ found.
    let less = found.1 in
    let most : found.0 ≤ k = omega (arith, less) in
    elim (eq-or-lt_of_le most) [
      | inl last ↦ fails (subst P last found.2)
      | inr before ↦ none (found.0, before, found.2)
    ])

-- the decision if a number below k has the property
pub bounded : (P : ℕ → Type 0) → ((n : ℕ) → Decision (P n)) → (k : ℕ) → Decision ((n : ℕ) × (n < k) × P n)
bounded P decide zero = inr (λ found. let less = found.1 in omega (arith, less))
bounded P decide (suc k) = bounded_more P k (decide k) (bounded P decide k)

-- no difference has the property if none of either sign has it
no_difference : (P : ℤ → Type 0) (k : ℕ) → ((n : ℕ) × (n < k) × P (pos n) → ⊥) → ((n : ℕ) × (n < k - 1) × P (negsuc n) → ⊥)
    → (z : ℤ) → unsigned_abs z < k → P z → ⊥
no_difference P k none none_below (pos n) less holds = none (n, less, holds)
no_difference P k none none_below (negsuc n) less holds = none_below (n, omega (arith, ints, less), holds)

-- a difference has the property if one of either sign has it
either_sign : (P : ℤ → Type 0) (k : ℕ) → Decision ((n : ℕ) × (n < k) × P (pos n)) → Decision ((n : ℕ) × (n < k - 1) × P (negsuc n))
    → Decision ((z : ℤ) × (unsigned_abs z < k) × P z)
either_sign P k (inl found) below = inl (pos found.0, found.1, found.2)
either_sign P k (inr none) (inl found) = let less = found.1 in inl (negsuc found.0, omega (arith, ints, less), found.2)
either_sign P k (inr none) (inr none_below) = inr (λ found. no_difference P k none none_below found.0 found.1 found.2)

-- the decision if a difference nearer to 0 than k has the property
pub bounded_difference : (P : ℤ → Type 0) → ((z : ℤ) → Decision (P z)) → (k : ℕ) → Decision ((z : ℤ) × (unsigned_abs z < k) × P z)
bounded_difference P decide k =
    either_sign P k (bounded (λ n. P (pos n)) (λ n. decide (pos n)) k) (bounded (λ n. P (negsuc n)) (λ n. decide (negsuc n)) (k - 1))
