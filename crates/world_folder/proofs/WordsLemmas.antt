-- Texts that list words.
use Rattle.std.proofs.Common.{◌≡◌, inr, ℕ, zero, suc, ◌+◌, ◌-◌, ◌<◌, List, [], ◌∷◌, ◌++◌, length, take, drop, slice_index, decimal, refl, ap, sym, subst, ◌∙◌}
use Rattle.std.proofs.Common.{arith, append_assoc, append-nil, length-append}
use Rattle.std.proofs.lemmas.List.{take-append-drop, drop_more, length-take}
use Rattle.std.proofs.Math.Seq.{take-length}
use Rattle.world_folder.specs.WordsText.{IsSeparator, HasNoSeparator, EndsPart, EndsLine, ListsEach, newlines}

-- one word more
pub each_more : (words front : List ℕ) (word separator : ℕ) → IsSeparator separator → ListsEach words front
    → ListsEach (words ++ word ∷ []) (front ++ (decimal word ++ separator ∷ []))
each_more [] front word separator is listed = (separator, [], is, ap (λ (l : List ℕ). l ++ (decimal word ++ separator ∷ [])) listed, refl)
each_more (first ∷ words) front word separator is listed =
    let more = decimal word ++ separator ∷ [] in (
      listed.0,
      listed.1 ++ more,
      listed.2,
      ap (λ (l : List ℕ). l ++ more) listed.3 ∙ append_assoc (decimal first) (listed.0 ∷ listed.1) more,
      each_more words listed.1 word separator is listed.4,
    )

-- the last byte, from one byte earlier
last_of_more : (byte : ℕ) (bytes : List ℕ) → 0 < length bytes
    → slice_index (byte ∷ bytes) (length (byte ∷ bytes) - 1) ≡ slice_index bytes (length bytes - 1)
last_of_more byte [] some = absurd (omega (arith, some))
last_of_more byte (next ∷ bytes) some =
    let more : length (byte ∷ next ∷ bytes) - 1 ≡ suc (length bytes) = omega arith in
    let one : length (next ∷ bytes) - 1 ≡ length bytes = omega arith in
    ap (slice_index (byte ∷ next ∷ bytes)) more ∙ sym (ap (slice_index (next ∷ bytes)) one)

last_byte : (front rest : List ℕ) → 0 < length rest
    → slice_index (front ++ rest) (length (front ++ rest) - 1) ≡ slice_index rest (length rest - 1)
last_byte [] rest some = refl
last_byte (byte ∷ front) rest some = last_of_more byte (front ++ rest) (omega (arith, length-append front rest, some)) ∙ last_byte front rest some

-- bytes without a separator don't end with a newline
last_other : (bytes : List ℕ) → HasNoSeparator bytes → 0 < length bytes → slice_index bytes (length bytes - 1) ≡ 10 → ⊥
last_other [] none some = absurd (omega (arith, some))
last_other (byte ∷ []) none some = λ is. none.0 (inr is)
last_other (byte ∷ next ∷ more) none some = λ is. last_other (next ∷ more) none.1 (omega arith) (sym (last_of_more byte (next ∷ more) (omega arith)) ∙ is)

-- a text whose last part has no separator after it
pub cut_off : (front rest text : List ℕ) → text ≡ front ++ rest → HasNoSeparator (take (length rest) rest) → 0 < length rest → ¬ EndsLine text
cut_off front rest text is none some = λ ends.
    last_other rest (subst HasNoSeparator (take-length rest) none) some (sym (last_byte front rest some) ∙ subst (λ (l : List ℕ). slice_index l (length l - 1) ≡ 10) is ends.1)

-- a text of which nothing is left
pub begun : (words front text : List ℕ) → text ≡ front ++ [] → ListsEach words front → ListsEach words text
begun words front text is listed = subst (ListsEach words) (sym (is ∙ append-nil front)) listed

pub newlines-append : (one two : List ℕ) → newlines (one ++ two) ≡ newlines one + newlines two
newlines-append [] two = omega arith
newlines-append (byte ∷ one) two = omega (arith, newlines-append one two)

-- a part has no newline
pub newlines-part : (part : List ℕ) → HasNoSeparator part → newlines part ≡ 0
newlines-part [] none = refl
newlines-part (byte ∷ part) none = grind (arith, newlines-part part none.1, none.0)

-- the bytes before a separator
no_separator_suc : (bytes : List ℕ) (i : ℕ) → i < length bytes → ¬ IsSeparator (slice_index bytes i)
    → HasNoSeparator (take i bytes) → HasNoSeparator (take (suc i) bytes)
no_separator_suc [] i inside other none = absurd (omega (arith, inside))
no_separator_suc (first ∷ bytes) zero inside other none = (other, tt)
no_separator_suc (first ∷ bytes) (suc i) inside other none = (none.0, no_separator_suc bytes i (omega (arith, inside)) other none.1)

pub no_separator_at : (bytes : List ℕ) (i : ℕ) → i < length bytes → ¬ IsSeparator (slice_index bytes i)
    → HasNoSeparator (take i bytes) → HasNoSeparator (take (i + 1) bytes)
no_separator_at bytes i inside other none =
    let next : suc i ≡ i + 1 = omega arith in
    subst (λ (n : ℕ). HasNoSeparator (take n bytes)) next (no_separator_suc bytes i inside other none)

-- from the first byte of what is left
separator_first : (left : List ℕ) (byte : ℕ) (more : List ℕ) → left ≡ byte ∷ more → EndsPart left → IsSeparator byte
separator_first left byte more is ends = subst EndsPart is ends

-- a text continues after a word and its separator
pub record GoesOn (words front rest text : List ℕ) (word end : ℕ) (more : List ℕ) : Type 0 where
  pub is_text : text ≡ more ++ drop (end + 1) rest
  pub listed : ListsEach (words ++ word ∷ []) more
  pub lines : newlines more ≡ newlines front + newlines (slice_index rest end ∷ [])
  pub longer : length more ≡ length front + end + 1

pub goes_on : (words front rest text : List ℕ) (word end : ℕ) → text ≡ front ++ rest → end < length rest → take end rest ≡ decimal word
    → HasNoSeparator (take end rest) → EndsPart (drop end rest) → ListsEach words front
    → GoesOn words front rest text word end (front ++ (decimal word ++ slice_index rest end ∷ []))
goes_on words front rest text word end is inside part none ends listed =
    let byte = slice_index rest end in
    let split : drop end rest ≡ byte ∷ drop (end + 1) rest = drop_more rest end 0 inside in
    let whole : rest ≡ decimal word ++ byte ∷ drop (end + 1) rest =
    sym (take-append-drop end rest) ∙ ap (λ (l : List ℕ). l ++ drop end rest) part ∙ ap (λ (l : List ℕ). decimal word ++ l) split in
    record {
      is_text = is ∙ ap (λ (l : List ℕ). front ++ l) whole ∙ behind front (decimal word) byte (drop (end + 1) rest);
      listed = each_more words front word byte (separator_first (drop end rest) byte (drop (end + 1) rest) split ends) listed;
      lines = lines_of front (decimal word) byte (newlines-part (decimal word) (subst HasNoSeparator part none));
      longer = long_of front (decimal word) byte end (ap length (sym part) ∙ taken rest end inside);
    }
  where
    behind : (a b : List ℕ) (x : ℕ) (c : List ℕ) → a ++ (b ++ x ∷ c) ≡ (a ++ (b ++ x ∷ [])) ++ c
    behind a b x c = ap (λ (l : List ℕ). a ++ l) (sym (append_assoc b (x ∷ []) c)) ∙ sym (append_assoc a (b ++ x ∷ []) c)

    lines_of : (a b : List ℕ) (x : ℕ) → newlines b ≡ 0 → newlines (a ++ (b ++ x ∷ [])) ≡ newlines a + newlines (x ∷ [])
    lines_of a b x is_0 = omega (arith, newlines-append a (b ++ x ∷ []), newlines-append b (x ∷ []), is_0)

    long_of : (a b : List ℕ) (x n : ℕ) → length b ≡ n → length (a ++ (b ++ x ∷ [])) ≡ length a + n + 1
    long_of a b x n is_n = omega (arith, length-append a (b ++ x ∷ []), length-append b (x ∷ []), is_n)

    taken : (l : List ℕ) (n : ℕ) → n < length l → length (take n l) ≡ n
    taken l n is_in = omega (arith, length-take n l, is_in)
