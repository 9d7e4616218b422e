-- The bytes that are kept of a line, one by one, and their meaning.
use Rattle.std.proofs.Common.{arith, refl, ap, sym, ◌∙◌, ◌≡◌, ◌≢◌, ◌<◌, ◌≤◌, ℕ, List, [], ◌∷◌, ◌++◌, length, take, Option, Some, None, ◌⊎◌, inl, inr}
use Rattle.std.proofs.lemmas.Bool.{cases_lt}
use Rattle.std.proofs.lemmas.List.{length-append, length-take-le, take-append-le, take_all}
use Rattle.line_grammar.specs.declared.command.TheConstants.{LINE_BYTES}
use Rattle.line_grammar.specs.Reading.{IsReading}
use Rattle.line_grammar.specs.Kept.{kept_of, KeptMeans, HasNoNewline}

-- with one byte more, if there is room and if there is none
pub keep_more : (kept : List ℕ) (b : ℕ) → length kept ≤ 80 → kept ++ b ∷ [] ≡ kept_of (kept ++ b ∷ [])
keep_more kept b short = sym (take_all 81 (kept ++ b ∷ []) (simp length-append (omega arith)))

pub keep_same : (kept : List ℕ) (b : ℕ) → length kept ≡ 81 → kept ≡ kept_of (kept ++ b ∷ [])
keep_same kept b full = sym (take-append-le 81 kept (b ∷ []) (omega arith) ∙ take_all 81 kept (omega arith))

pub kept_of-snoc : (line : List ℕ) (b : ℕ) → kept_of (line ++ b ∷ []) ≡ kept_of (kept_of line ++ b ∷ [])
kept_of-snoc line b = by_length (cases_lt 81 (length line))
  where
    by_length : (81 < length line) ⊎ (length line ≤ 81) → kept_of (line ++ b ∷ []) ≡ kept_of (kept_of line ++ b ∷ [])
    by_length (inr short) = rw (take_all 81 line short) refl
    by_length (inl long) =
        let many : 81 ≤ length line = omega arith in
        let whole : length (take 81 line) ≡ 81 = length-take-le 81 line many in
        take-append-le 81 line (b ∷ []) many
        ∙ (sym (take_all 81 (take 81 line) (omega (arith, whole))) ∙ sym (take-append-le 81 (take 81 line) (b ∷ []) (omega (arith, whole))))

-- a line with one byte more has no newline, unless this is one
pub HasNoNewline-snoc : (line : List ℕ) (b : ℕ) → HasNoNewline line → b ≢ 10 → HasNoNewline (line ++ b ∷ [])
HasNoNewline-snoc [] b unbroken other = (other, tt)
HasNoNewline-snoc (c ∷ line) b unbroken other = (unbroken.0, HasNoNewline-snoc line b unbroken.1 other)

module _ {A : Type 0} (spelling : A → List ℕ) (IsInBounds : A → Type 0) (short : (a : A) → IsInBounds a → length (spelling a) ≤ LINE_BYTES) where
  -- a longer line means nothing, whatever it is
  long_means : (bytes other : List ℕ) (meaning : Option A) → LINE_BYTES < length bytes → LINE_BYTES < length other
      → IsReading spelling IsInBounds bytes meaning → IsReading spelling IsInBounds other meaning
  long_means bytes other None long other_long means = λ a bounds is.
      let most = short a bounds in
      let same = ap length is in
      omega (arith, most, same)
  long_means bytes other (Some a) long other_long means =
      let most = short a means.0 in
      let same = ap length means.1 in
      absurd (omega (arith, most, same))

  pub kept_is_read : (kept : List ℕ) (meaning : Option A) → IsReading spelling IsInBounds kept meaning
      → KeptMeans (IsReading spelling IsInBounds) kept meaning
  kept_is_read kept meaning means line is = by_length (cases_lt 81 (length line))
    where
      by_length : (81 < length line) ⊎ (length line ≤ 81) → IsReading spelling IsInBounds line meaning
      by_length (inr few) = let same : kept ≡ line = sym is ∙ take_all 81 line few in rw (← same) means
      by_length (inl many) =
          let whole : length (take 81 line) ≡ 81 = length-take-le 81 line (omega arith) in
          let kept_length : length kept ≡ 81 = ap length (sym is) ∙ whole in
          long_means kept line meaning (omega (arith, kept_length)) (omega arith) means
