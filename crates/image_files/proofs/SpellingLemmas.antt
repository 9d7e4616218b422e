-- The bytes of an image, and their reading.
use Rattle.std.proofs.Common.{rules}
use Rattle.std.proofs.Common.{◌≡◌, ℕ, zero, suc, ◌+◌, ◌*◌, ◌^◌, ◌<◌, ◌≤◌, List, [], ◌∷◌, ◌++◌, Bool, true, false, Option, Some}
use Rattle.std.proofs.Common.{None, ◌&&◌, cond, length, get_or, take, drop, refl, sym, ◌∙◌, ap, subst, arith, length-append}
use Rattle.std.proofs.Common.{length-drop}
use Rattle.std.proofs.lemmas.List.{append_assoc, take-append-drop, drop-drop, drop_more, get_or-drop}
use Rattle.std.proofs.Math.Seq.{take-add}
use Rattle.std.proofs.lemmas.List.Sums.{AllPass-from_list_all, list_all-from_AllPass}
use Rattle.std.proofs.lemmas.Bool.Decides.{nat_tests}
use Rattle.std.specs.Prelude.{nat_le, All}
use Rattle.std.specs.List.{list_all, flat_map}
use Rattle.world_actions.specs.World.{IsWord, IsWorld}
use Rattle.file_format.specs.declared.format.Format.{Format}
use Rattle.file_format.specs.Format.{marked_of, unmarked}
use Rattle.file_format.proofs.FormatLemmas.{unmarked-marked_of, marked_of-unmarked}
use Rattle.file_format.specs.Number.{IsBytes, number_of, number_bytes}
use Rattle.file_format.proofs.NumberLemmas.{length-number_bytes}
use Rattle.image_files.specs.Image.{Image, image_of, open_image, image_bytes, header_bytes, cells_most, cells_of, cells_in, tick_in, number_at, words_from, is_word, is_open, is_whole}
use Rattle.image_files.proofs.WordLemmas.{number_written, length-words_from}

-- ---- tests

pub both : (a b : Bool) → (a && b) ≡ true → (a ≡ true) × (b ≡ true)
both d b holds = search rules

le_of : (a b : ℕ) → nat_le a b ≡ true → a ≤ b
le_of a b holds = grind (arith, nat_tests)

test_of : (a b : ℕ) → a ≤ b → nat_le a b ≡ true
test_of a b le = grind (arith, nat_tests)

pub words_pass : (words : List ℕ) → All IsWord words → list_all is_word words ≡ true
words_pass words all = list_all-from_AllPass is_word words (λ i d lt. test_of (get_or words i d) 999999999999999999 (all i d lt))

pub words_limited : (words : List ℕ) → list_all is_word words ≡ true → All IsWord words
words_limited words pass = let each = AllPass-from_list_all is_word words pass in λ i d lt. le_of (get_or words i d) 999999999999999999 (each i d lt)

-- ---- written images are read back

-- a number that a cell may hold has 8 bytes
pub word_fits : (word : ℕ) → is_word word ≡ true → word < 256 ^ 8
word_fits word pass = let small = le_of word 999999999999999999 pass in omega arith

-- the words that are written at a place
pub words_written : (front : List ℕ) (words : List ℕ) (rest : List ℕ) (place : ℕ) → length front ≡ place → list_all is_word words ≡ true
    → words_from (front ++ (flat_map (number_bytes 8) words ++ rest)) place (length words) ≡ words
words_written front [] rest place at pass = refl
words_written front (w ∷ words) rest place at pass =
    let file = front ++ (flat_map (number_bytes 8) (w ∷ words) ++ rest) in
    let parts = both (is_word w) (list_all is_word words) pass in
    let first : file ≡ front ++ (number_bytes 8 w ++ (flat_map (number_bytes 8) words ++ rest)) = ap
    (λ (l : List ℕ). front ++ l) (append_assoc (number_bytes 8 w) (flat_map (number_bytes 8) words) rest) in
    let second : file ≡ (front ++ number_bytes 8 w) ++ (flat_map (number_bytes 8) words ++ rest) = first ∙ sym (append_assoc front (number_bytes 8 w) (flat_map (number_bytes 8) words ++ rest)) in
    let head : number_at file place ≡ w = ap (λ (l : List ℕ). number_at l place) first ∙ number_written front (flat_map (number_bytes 8) words ++ rest) place w at (word_fits w parts.0) in
    let tail : words_from file (place + 8) (length words) ≡ words = ap (λ (l : List ℕ). words_from l (place + 8) (length words)) second
    ∙ words_written (front ++ number_bytes 8 w) words rest (place + 8) (omega (arith, length-append front (number_bytes 8 w), length-number_bytes 8 w, at)) parts.1 in
    ap (λ (x : ℕ). x ∷ words_from file (place + 8) (length words)) head ∙ ap (λ (l : List ℕ). w ∷ l) tail

-- a number of cells within the bounds of its format is read
pub cells_found : (format : Format) (marked cells : ℕ) → marked ≡ marked_of format cells → 1 ≤ cells → cells ≤ cells_most format → cells_of (unmarked marked) ≡ Some cells
cells_found format marked cells is some most = search (rules, test_of, unmarked-marked_of)

-- a marked number of cells has 8 bytes
pub marked_fits : (format : Format) (cells : ℕ) → cells ≤ 1048576 → marked_of format cells < 256 ^ 8
marked_fits b cells most = search rules

-- an open gate over a whole header and words is an image
pub whole_reads : (file : List ℕ) (tick : ℕ) (words : List ℕ) → get_or file 0 0 ≡ 1 → cells_in file ≡ Some (length words) → tick_in file ≡ tick → words_from file 17 (length words) ≡ words
    → 17 + 8 * length words ≤ length file → tick ≤ 1000000000000000000 → list_all is_word words ≡ true → image_of file ≡ Image.Open tick words
unfolding image_of
whole_reads file tick words gate cells_is tick_is words_are room small pass =
    let gate_open : is_open file ≡ true = grind (arith, nat_tests) in
    let parts : (nat_le tick 1000000000000000000 ≡ true) × (nat_le (17 + 8 * length words) (length file) ≡ true) = (test_of _ _ small, test_of _ _ room) in
    let whole : is_whole file (length words) tick ≡ true = rw (parts.0, parts.1, words_are, pass) refl in
    rw (gate_open, cells_is, tick_is, whole, words_are) refl

pub image_read : (format : Format) (tick : ℕ) (words rest : List ℕ) → tick ≤ 1000000000000000000 → IsWorld words
    → length words ≤ cells_most format → image_of (image_bytes format tick words ++ rest) ≡ Image.Open tick words
image_read format tick words rest small world most =
    let n = length words in
    let m = marked_of format n in
    let pass : list_all is_word words ≡ true = words_pass words world.limit in
    let tail = flat_map (number_bytes 8) words in
    let file = image_bytes format tick words ++ rest in
    let first : file ≡ (1 ∷ []) ++ (number_bytes 8 m ++ (number_bytes 8 tick ++ (tail ++ rest))) =
    ap (λ (l : List ℕ). 1 ∷ l) (append_assoc (header_bytes format n tick) tail rest ∙ append_assoc (number_bytes 8 m) (number_bytes 8 tick) (tail ++ rest)) in
    let second : file ≡ ((1 ∷ []) ++ number_bytes 8 m) ++ (number_bytes 8 tick ++ (tail ++ rest)) = first in
    let third : file ≡ (((1 ∷ []) ++ number_bytes 8 m) ++ number_bytes 8 tick) ++ (tail ++ rest) =
    second ∙ sym (append_assoc ((1 ∷ []) ++ number_bytes 8 m) (number_bytes 8 tick) (tail ++ rest)) in
    let front : length (((1 ∷ []) ++ number_bytes 8 m) ++ number_bytes 8 tick) ≡ 17 =
    omega (arith, length-append ((1 ∷ []) ++ number_bytes 8 m) (number_bytes 8 tick), length-append (1 ∷ []) (number_bytes 8 m), length-number_bytes 8 m, length-number_bytes 8 tick) in
    let marked_is : number_at file 1 ≡ m = ap (λ (l : List ℕ). number_at l 1) first ∙ number_written (1 ∷ []) (number_bytes 8 tick ++ (tail ++ rest)) 1 m refl (marked_fits format n world.most) in
    let cells_is : cells_in file ≡ Some n = cells_found format (number_at file 1) n marked_is world.some most in
    let tick_is : tick_in file ≡ tick = ap tick_in second ∙ number_written ((1 ∷ []) ++ number_bytes 8 m) (tail ++ rest) 9 tick
    (omega (arith, length-append (1 ∷ []) (number_bytes 8 m), length-number_bytes 8 m)) (omega arith) in
    let words_are : words_from file 17 n ≡ words = ap (λ (l : List ℕ). words_from l 17 n) third ∙ words_written (((1 ∷ []) ++ number_bytes 8 m) ++ number_bytes 8 tick) words rest 17 front pass in
    let long : length file ≡ 17 + length (tail ++ rest) = ap length third ∙ omega (arith, length-append (((1 ∷ []) ++ number_bytes 8 m) ++ number_bytes 8 tick) (tail ++ rest), front) in
    let room : 17 + 8 * n ≤ length file = omega (arith, long, length-append tail rest, length-words words) in
    whole_reads file tick words refl cells_is tick_is words_are room small pass
  where
    length-words : (words : List ℕ) → length (flat_map (number_bytes 8) words) ≡ 8 * length words
    length-words [] = refl
    length-words (w ∷ words) = let e = length-words words in omega (arith, e, length-append (number_bytes 8 w) (flat_map (number_bytes 8) words), length-number_bytes 8 w)

-- ---- read images are spelled

chosen : (a : Bool) (read : Image) (t : ℕ) (ws : List ℕ) → cond a read Image.Closed ≡ Image.Open t ws → (a ≡ true) × (read ≡ Image.Open t ws)
chosen b read t ws is = search rules

chosen_whole : (file : List ℕ) (cells : Option ℕ) (tick t : ℕ) (ws : List ℕ) → open_image file cells tick ≡ Image.Open t ws
    → (n : ℕ) × (cells ≡ Some n) × (is_whole file n tick ≡ true) × (tick ≡ t) × (words_from file 17 n ≡ ws)
chosen_whole file b tick t ws is = search rules

-- a number of cells that is read has a mark, and is within the bounds of its format
pub cells_bounded : (marked cells : ℕ) → cells_of (unmarked marked) ≡ Some cells → (format : Format) × (marked ≡ marked_of format cells) × (1 ≤ cells) × (cells ≤ cells_most format)
cells_bounded marked cells is = of_mark (unmarked marked) refl is
  where
    of_test : (b : Bool) (n : ℕ) → cond b (Some n) None ≡ Some cells → (b ≡ true) × (n ≡ cells)
    of_test true n same = (refl, cc)
    of_test false n same = absurd (cc same)

    of_mark : (read : Option (Format × ℕ)) → unmarked marked ≡ read → cells_of read ≡ Some cells → (format : Format) × (marked ≡ marked_of format cells) × (1 ≤ cells) × (cells ≤ cells_most format)
    of_mark b same here = search (rules, both, le_of, marked_of-unmarked)

pub most_of : (format : Format) → cells_most format ≤ 1048576
most_of b = search rules

-- the parts of an open image's file
pub record OpenFile (file : List ℕ) (tick : ℕ) (words : List ℕ) : Type 0 where
  pub gate : get_or file 0 0 ≡ 1
  pub format : Format
  pub marked_is : number_at file 1 ≡ marked_of format (length words)
  pub tick_is : tick_in file ≡ tick
  pub words_are : words_from file 17 (length words) ≡ words
  pub some : 1 ≤ length words
  pub most : length words ≤ cells_most format
  pub small : tick ≤ 1000000000000000000
  pub room : 17 + 8 * length words ≤ length file
  pub pass : list_all is_word words ≡ true

pub open_file : (file : List ℕ) (tick : ℕ) (words : List ℕ) → image_of file ≡ Image.Open tick words → OpenFile file tick words
unfolding image_of
open_file file tick words is =
    let t = tick_in file in
    let gate_open = chosen (is_open file) (open_image file (cells_in file) t) tick words is in
    let found = chosen_whole file (cells_in file) t tick words gate_open.1 in
    let n = found.0 in
    let count : n ≡ length words = sym (length-words_from file 17 n) ∙ ap length found.4 in
    let bounds = cells_bounded (number_at file 1) n found.1 in
    let last = both _ (list_all is_word (words_from file 17 n)) found.2 in
    let first = both (nat_le t 1000000000000000000) (nat_le (17 + 8 * n) (length file)) last.0 in
    record {
      gate = gate_of file gate_open.0;
      format = bounds.0;
      marked_is = bounds.1 ∙ ap (marked_of bounds.0) count;
      tick_is = found.3;
      words_are = ap (words_from file 17) (sym count) ∙ found.4;
      some = omega (arith, bounds.2, count);
      most = subst (λ (m : ℕ). m ≤ cells_most bounds.0) count bounds.3;
      small = omega (arith, le_of _ _ first.0, found.3);
      room = omega (arith, le_of _ _ first.1, count);
      pass = ap (list_all is_word) (sym found.4) ∙ last.1;
    }
  where
    gate_of : (file : List ℕ) → is_open file ≡ true → get_or file 0 0 ≡ 1
    gate_of file pass = grind (arith, nat_tests)

number_spelled : (spelled : (width : ℕ) (bytes : List ℕ) → IsBytes bytes → width ≤ length bytes → number_bytes width (number_of width bytes) ≡ take width bytes)
    (bytes : List ℕ) (place : ℕ) → IsBytes bytes → place + 8 ≤ length bytes → number_bytes 8 (number_at bytes place) ≡ take 8 (drop place bytes)
number_spelled spelled bytes place are_bytes room =
    spelled 8 (drop place bytes) (λ i. subst (λ (x : ℕ). x < 256) (sym (get_or-drop place bytes i 0)) (are_bytes (place + i))) (omega (arith, length-drop place bytes))

-- the words in bytes have these bytes again, if a number that is read from bytes has those bytes
pub words_spelled : (spelled : (width : ℕ) (bytes : List ℕ) → IsBytes bytes → width ≤ length bytes → number_bytes width (number_of width bytes) ≡ take width bytes)
    (bytes : List ℕ) (place n : ℕ) → IsBytes bytes → place + 8 * n ≤ length bytes → flat_map (number_bytes 8) (words_from bytes place n) ≡ take (8 * n) (drop place bytes)
words_spelled spelled bytes place zero are_bytes room = refl
words_spelled spelled bytes place (suc n) are_bytes room =
    let more : 8 * suc n ≡ 8 + 8 * n = omega arith in
    let next : drop 8 (drop place bytes) ≡ drop (place + 8) bytes = drop-drop 8 place bytes in
    ap (λ (l : List ℕ). l ++ flat_map (number_bytes 8) (words_from bytes (place + 8) n)) (number_spelled spelled bytes place are_bytes (omega arith))
    ∙ ap (λ (l : List ℕ). take 8 (drop place bytes) ++ l) (words_spelled spelled bytes (place + 8) n are_bytes (omega arith) ∙ ap (take (8 * n)) (sym next))
    ∙ sym (take-add 8 (8 * n) (drop place bytes))
    ∙ ap (λ (m : ℕ). take m (drop place bytes)) (sym more)

pub image_spelled : (spelled : (width : ℕ) (bytes : List ℕ) → IsBytes bytes → width ≤ length bytes → number_bytes width (number_of width bytes) ≡ take width bytes)
    (file : List ℕ) (tick : ℕ) (words : List ℕ) → IsBytes file → (is : OpenFile file tick words) → file ≡ image_bytes is.format tick words ++ drop (17 + 8 * length words) file
image_spelled spelled file tick words are_bytes is =
    let n = length words in
    let cells = number_bytes 8 (marked_of is.format n) in
    let time = number_bytes 8 tick in
    let body = flat_map (number_bytes 8) words in
    let rest = drop (17 + 8 * n) file in
    let gate : file ≡ 1 ∷ drop 1 file = drop_more file 0 0 (omega (arith, is.room)) ∙ ap (λ (b : ℕ). b ∷ drop 1 file) is.gate in
    let first : drop 1 file ≡ cells ++ drop 9 file = split 1 8 cells (sym (number_spelled spelled file 1 are_bytes (omega (arith, is.room))) ∙ ap (number_bytes 8) is.marked_is) in
    let second : drop 9 file ≡ time ++ drop 17 file = split 9 8 time (sym (number_spelled spelled file 9 are_bytes (omega (arith, is.room))) ∙ ap (number_bytes 8) is.tick_is) in
    let third : drop 17 file ≡ body ++ rest = split 17 (8 * n) body (sym (words_spelled spelled file 17 n are_bytes is.room) ∙ ap (flat_map (number_bytes 8)) is.words_are) in
    gate
    ∙ ap (λ (l : List ℕ). 1 ∷ l)
    (first ∙ ap (λ (l : List ℕ). cells ++ l) (second ∙ ap (λ (l : List ℕ). time ++ l) third) ∙ sym (append_assoc cells time (body ++ rest)) ∙ sym (append_assoc (cells ++ time) body rest))
  where
    split : (place n : ℕ) (part : List ℕ) → take n (drop place file) ≡ part → drop place file ≡ part ++ drop (place + n) file
    split place n part same =
        let next : drop n (drop place file) ≡ drop (place + n) file = drop-drop n place file in
        sym (take-append-drop n (drop place file)) ∙ ap (λ (l : List ℕ). l ++ drop n (drop place file)) same ∙ ap (λ (l : List ℕ). part ++ l) next
