use Rattle.std.specs.Fmt.{signed_decimal}
use Rattle.std.proofs.Common.{rules, arith, refl, sym, ◌∙◌, ◌≡◌, ◌≢◌, ℕ, zero, suc, ◌+◌, ◌-◌, ◌*◌, ◌<◌, ◌≤◌, ◌^◌, List, [], ◌∷◌}
use Rattle.std.proofs.Common.{length, get_or, slice_index, true, decimal, Ok, Err, Result, inl, inr, ◌⊎◌, lit<, lit≤, ℤ, pos}
use Rattle.std.proofs.Common.{negsuc, unsigned_abs, ◌≤ℤ◌}
use Rattle.std.specs.Str.{all_ascii_digits, IsUtf8}
use Rattle.std.specs.Str.Parse.{ParsesUnsigned}
use Rattle.std.specs.Result.{result_ok}
use Rattle.std.specs.Int.{IsInRange}
use Rattle.std.proofs.lemmas.Int.{ints}
use Rattle.std.proofs.lemmas.Str.{IsUtf8-from_ascii}
use Rattle.std.proofs.lemmas.Str.Parse.{IsNumeralModel, numerals_by_fold, parse_plain, digit_at}
use Rattle.std.proofs.lemmas.Fmt.{decimal_is_IsNumeral, decimal_nonempty, first_decimal, IsAscii-decimal, decimal_injective, decimal_digit, decimal-digits_value, parse-decimal, length-decimal-le}
use Rattle.line_grammar.specs.Number.{StartsNumber}
use Rattle.line_grammar.specs.Reading.{IsReading}

-- a number, continued by these digits
abbrev read_on : ℕ → List ℕ → ℕ
read_on n [] = n
read_on n (c ∷ cs) = read_on (10 * n + (c - 48)) cs

-- continued from 0 it is the number that the digits write
own : IsNumeralModel (λ ds. all_ascii_digits ds ≡ true) (read_on 0)
own = numerals_by_fold _ (search rules) read_on (search rules)

-- the text of a number starts as a number
pub starts_decimal : (n : ℕ) → n < 2 ^ 64 → StartsNumber (decimal n)
starts_decimal n h =
    let numeral = decimal_is_IsNumeral n h in
    let digit : IsInRange 48 57 (get_or (decimal n) 0 0) = digit_at (decimal n) 0 (search (rules, numeral)) (decimal_nonempty n h) in
    record {
      nonempty = decimal_nonempty n h;
      low = digit.0;
      high = digit.1;
      alone = λ first. elim (zero_or_more n) [
        | inl none ↦ rw (none, decimal_digit 0 (lit< tt)) refl
        | inr some ↦ let above = first_decimal n some h in absurd (omega (arith, above, first))
      ];
    }
  where
    zero_or_more : (m : ℕ) → (m ≡ 0) ⊎ (0 < m)
    zero_or_more zero = inl refl
    zero_or_more (suc m) = inr (omega arith)

-- parsing reads a text that starts as a number
pub reading_parsed : {E : Type 0} (text : List ℕ) (r : Result ℕ E) → StartsNumber text → ParsesUnsigned 64 10 text r
    → IsReading decimal (λ n. n < 2 ^ 64) text (result_ok r)
reading_parsed {E} text (Ok n) starts parses =
    let r : Result ℕ E = Ok n in
    let plain : get_or text 0 0 ≢ 43 = λ e. let low = starts.low in omega (arith, e, low) in
    let parsed = parse_plain own 64 text r parses plain in
    let fits = parsed.0.2 in
    (rw parsed.1 fits, sym (rw parsed.1 (decimal-digits_value own text parsed.0.0 starts.nonempty starts.alone fits)))
reading_parsed text (Err e) starts parses = λ n h is. let parsed = parse-decimal 64 n text (Err e) h h is parses in cc

-- a text that doesn't start as a number is no number's text
pub not_text : (text : List ℕ) → ¬ (IsUtf8 text) → (n : ℕ) → n < 2 ^ 64 → text ≢ decimal n
not_text text invalid n h is = invalid (rw is (IsUtf8-from_ascii (decimal n) (IsAscii-decimal n h)))

-- a number below a bound is spelled as no number that isn't
pub same_below : (m n high : ℕ) → m < 2 ^ 64 → high ≤ 2 ^ 64 → n < high → decimal m ≡ decimal n → m < high
same_below m n high fits within below is =
    let equal = decimal_injective m n fits (omega arith) is in
    omega (arith, equal)

-- neither is a difference that isn't negative
pub same_difference : (m : ℕ) → m < 2 ^ 64 → (z : ℤ) → (pos 0 ≤ℤ z) × (unsigned_abs z < 2 ^ 63) → decimal m ≡ signed_decimal z → m < 2 ^ 63
same_difference m fits (pos n) bounds is = same_below m n (2 ^ 63) fits (lit≤ tt) bounds.1 is
same_difference m fits (negsuc n) bounds is = let bad = bounds.0 in absurd (omega (arith, ints, bad))

-- a difference with a minus is one of a number other than 0
pub none_negative : (text rest : List ℕ) → text ≡ 45 ∷ rest → ((n : ℕ) → 0 < n → n < 2 ^ 63 → rest ≢ decimal n)
    → (z : ℤ) → unsigned_abs z < 2 ^ 63 → text ≢ signed_decimal z
none_negative text rest minus none (pos n) fits is =
    let starts = starts_decimal n (omega arith) in
    let first : slice_index (decimal n) 0 ≡ 45 = rw (← is, minus) refl in
    let low = starts.low in
    absurd (omega (arith, first, low))
none_negative text rest minus none (negsuc n) fits is =
    let e : 45 ∷ rest ≡ 45 ∷ decimal (suc n) = sym minus ∙ is in
    none (suc n) (omega arith) fits cc

-- 0 is no number other than 0
pub only_zero : (text : List ℕ) → text ≡ decimal 0 → (n : ℕ) → 0 < n → n < 2 ^ 63 → text ≢ decimal n
only_zero text zero_is n some fits is =
    let equal = decimal_injective 0 n (lit< tt) (omega arith) (sym zero_is ∙ is) in
    omega (arith, equal)

-- the most bytes of a cell, a number and a difference
pub length-cell : (n : ℕ) → n < 2 ^ 32 → length (decimal n) ≤ 10
length-cell n fits = length-decimal-le 10 n (lit< tt) (omega arith) (omega arith)

pub length-number : (n : ℕ) → n < 2 ^ 64 → length (decimal n) ≤ 20
length-number n fits = length-decimal-le 20 n (lit< tt) (omega arith) fits

pub length-difference : (z : ℤ) → unsigned_abs z < 2 ^ 63 → length (signed_decimal z) ≤ 21
length-difference (pos n) fits = let digits = length-number n (omega arith) in omega (arith, digits)
length-difference (negsuc n) fits = let digits = length-number (suc n) (omega arith) in omega (arith, digits)
