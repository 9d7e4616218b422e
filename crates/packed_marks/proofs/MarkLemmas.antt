-- The list of the marks in words.
use Rattle.std.proofs.Common.{refl, ◌≡◌, ◌≢◌, ℕ, ◌*◌, ◌<◌, ◌/◌, ◌%◌, Bool, not, List, length, map, replicate, get_or, set, sym}
use Rattle.std.proofs.Common.{ap, ◌∙◌, arith, false, zero-add, length-set, get_or-set_other, get_or-set_same}
use Rattle.std.proofs.lemmas.List.{get_or-replicate, length-replicate, length-map, get_or-map}
use Rattle.std.proofs.lemmas.List.FromFn.{length-map-range_with_len, get_or-map-range_with_len, fill_by_all}
use mathlib.Core.Logic.{dite}
use native.Mathlib.Decide.{ℕ_discrete}
use Rattle.packed_marks.specs.Bits.{chunks, is_set, marked}
use Rattle.packed_marks.specs.Marks.{marks_of, IsPacked}
use Rattle.packed_marks.proofs.BitLemmas.{marked_else, marked_here, marked-replicate, zero_clear}

-- there is one for each cell
pub length-marks_of : (n : ℕ) (words : List ℕ) → length (marks_of n words) ≡ n
length-marks_of n words = length-map-range_with_len (marked words) 0 n

-- the mark at a cell's place in the list is the cell's mark
pub get_or-marks_of : (n : ℕ) (words : List ℕ) (i : ℕ) → i < n → get_or (marks_of n words) i false ≡ marked words i
get_or-marks_of n words i l = get_or-map-range_with_len (marked words) 0 n i i false l (zero-add i)

-- if each mark is the same
pub marks_of-replicate : (n : ℕ) (words : List ℕ) (mark : Bool) → ((i : ℕ) → i < n → marked words i ≡ mark) → marks_of n words ≡ replicate n mark
marks_of-replicate n words mark same =
    sym (fill_by_all (marked words) (replicate n mark) n false (length-replicate {A = Bool} n mark)
    (λ i l. get_or-replicate n i mark false l ∙ sym (same i l)))

-- no mark is set in words that are 0
pub clear_marked : (n i : ℕ) → i < 64 * chunks n → marked (replicate (chunks n) 0) i ≡ false
clear_marked n i l = marked-replicate (chunks n) 0 i (omega arith) ∙ zero_clear (i % 64)

pub packed-clear : (n : ℕ) → IsPacked n (replicate (chunks n) 0)
packed-clear n =
    let long = length-replicate {A = ℕ} (chunks n) 0 in
    record { words_length = long; spare = λ i l m. clear_marked n i (omega (arith, long)) }

-- if one bit is set or cleared, the mark of that cell is set or cleared
pub marked_put : (words : List ℕ) (i v : ℕ) (mark : Bool) → i / 64 < length words → is_set v (i % 64) ≡ mark →
    ((j : ℕ) → j < 64 → j ≢ i % 64 → is_set v j ≡ is_set (get_or words (i / 64) 0) j) →
    (marked (set words (i / 64) v) i ≡ mark) × ((j : ℕ) → j ≢ i → marked (set words (i / 64) v) j ≡ marked words j)
marked_put words i v mark inside here others = (
  marked_here words (i / 64) v i inside refl ∙ here,
  λ j ne. dite (ℕ_discrete (j / 64) (i / 64))
      (λ e. marked_here words (i / 64) v j inside e ∙ (others (j % 64) (omega arith) (λ m. ne (omega arith)) ∙ ap (λ (z : ℕ). is_set (get_or words z 0) (j % 64)) (sym e)))
      (λ no. marked_else words (i / 64) v j no),
)

-- if one bit is set or cleared, the list of the marks has the new mark
pub marks_of-put : (n : ℕ) (words : List ℕ) (i v : ℕ) (mark : Bool) → IsPacked n words → i < n → is_set v (i % 64) ≡ mark →
    ((j : ℕ) → j < 64 → j ≢ i % 64 → is_set v j ≡ is_set (get_or words (i / 64) 0) j) →
    marks_of n (set words (i / 64) v) ≡ set (marks_of n words) i mark
marks_of-put n words i v mark ok l here others =
    let long = ok.words_length in
    let put = marked_put words i v mark (omega arith) here others in
    let count = length-marks_of n words in
    sym (fill_by_all (marked (set words (i / 64) v)) (set (marks_of n words) i mark) n false (length-set (marks_of n words) i mark ∙ count)
    (λ j m. dite (ℕ_discrete j i)
    (λ e. ap (λ (z : ℕ). get_or (set (marks_of n words) i mark) z false) e ∙ get_or-set_same (marks_of n words) i mark false (omega arith) ∙ sym put.0 ∙ ap (marked (set words (i / 64) v)) (sym e))
    (λ ne. get_or-set_other (marks_of n words) i j mark false ne ∙ get_or-marks_of n words j m ∙ sym (put.1 j ne))))

-- if one bit is set or cleared, the spare bits stay clear
pub packed-put : (n : ℕ) (words : List ℕ) (i v : ℕ) (mark : Bool) → IsPacked n words → i < n → is_set v (i % 64) ≡ mark →
    ((j : ℕ) → j < 64 → j ≢ i % 64 → is_set v j ≡ is_set (get_or words (i / 64) 0) j) →
    IsPacked n (set words (i / 64) v)
packed-put n words i v mark ok l here others =
    let long = ok.words_length in
    let same = length-set words (i / 64) v in
    let put = marked_put words i v mark (omega arith) here others in
    record { words_length = same ∙ long; spare = λ j m below. put.1 j (λ e. absurd (omega arith)) ∙ ok.spare j m (omega arith) }

-- if each mark is the opposite of the other's
pub marks_of-opposites : (n : ℕ) (words others : List ℕ) → ((i : ℕ) → i < n → marked words i ≡ not (marked others i)) →
    marks_of n words ≡ map not (marks_of n others)
marks_of-opposites n words others opposite =
    let count = length-marks_of n others in
    sym (fill_by_all (marked words) (map not (marks_of n others)) n false (length-map (marks_of n others) not ∙ count)
    (λ i l. get_or-map not (marks_of n others) i false false (omega arith) ∙ ap not (get_or-marks_of n others i l) ∙ sym (opposite i l)))
