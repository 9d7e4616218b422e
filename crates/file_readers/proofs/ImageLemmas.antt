-- An image reads the same without the bytes after its last word.
use Rattle.std.proofs.Common.{rules}
use Rattle.std.proofs.Common.{◌≡◌, ℕ, zero, suc, ◌+◌, ◌-◌, ◌*◌, ◌≤◌, min, inl, inr, true, List, ◌∷◌, length, get_or, take, drop, Option, Some, None, refl, sym, ap, ◌∙◌, arith}
use Rattle.std.specs.Prelude.{nat_le}
use Rattle.std.proofs.lemmas.Bool.{cases_lt, le-leb}
use Rattle.std.proofs.lemmas.List.{take-take, take_all, drop-take, length-take-le, length-take, get_or-take}
use Rattle.image_files.specs.Image.{Image, image_of, open_image, cells_of, cells_in, tick_in, number_at, words_from}
use Rattle.file_format.specs.Format.{unmarked}
use Rattle.image_files.proofs.SpellingLemmas.{open_file, cells_found}
use Rattle.image_files.proofs.WordLemmas.{number_same}

-- ---- the numbers of the first bytes

module _ (file : List ℕ) (n : ℕ) (inside : n ≤ length file) where
  number_cut : (place : ℕ) → place + 8 ≤ n → number_at (take n file) place ≡ number_at file place
  number_cut place within =
      let m = n - place in
      let whole : place + m ≡ n = omega arith in
      let behind : drop place (take n file) ≡ take m (drop place file) = ap (λ (k : ℕ). drop place (take k file)) (sym whole) ∙ drop-take place m file in
      let few : 8 ≤ m = omega arith in
      number_same (take n file) file place place (omega (arith, length-take-le n file inside)) (omega arith) (ap (take 8) behind ∙ take-take 8 m (drop place file) few)

  words_cut : (place count : ℕ) → place + 8 * count ≤ n → words_from (take n file) place count ≡ words_from file place count
  words_cut place zero within = refl
  words_cut place (suc count) within =
      ap (λ (x : ℕ). x ∷ words_from (take n file) (place + 8) count) (number_cut place (omega arith))
      ∙ ap (λ (l : List ℕ). number_at file place ∷ l) (words_cut (place + 8) count (omega arith))

  cells_cut : 17 ≤ n → cells_in (take n file) ≡ cells_in file
  cells_cut header = ap (λ (x : ℕ). cells_of (unmarked x)) (number_cut 1 (omega arith))

  tick_cut : 17 ≤ n → tick_in (take n file) ≡ tick_in file
  tick_cut header = number_cut 9 (omega arith)

-- ---- the reading of an open file

opened : (bytes : List ℕ) → 17 ≤ length bytes → get_or bytes 0 0 ≡ 1 → image_of bytes ≡ open_image bytes (cells_in bytes) (tick_in bytes)
unfolding image_of
opened bytes long gate = search rules

-- with this number of cells, as read from the header
open_with : (bytes : List ℕ) (cells : Option ℕ) (tick : ℕ) → 17 ≤ length bytes → get_or bytes 0 0 ≡ 1 → cells_in bytes ≡ cells → tick_in bytes ≡ tick → image_of bytes ≡ open_image bytes cells tick
open_with bytes cells tick long gate cells_are tick_is = search (rules, opened)

module _ (file header : List ℕ) (is : header ≡ take 17 file) (long : 17 ≤ length header) (gate : get_or header 0 0 ≡ 1) where
  inside : 17 ≤ length file
  inside = omega (arith, ap length is, length-take 17 file)

  file_gate : get_or file 0 0 ≡ 1
  file_gate = sym (get_or-take 17 file 0 0 (omega arith)) ∙ ap (λ (l : List ℕ). get_or l 0 0) (sym is) ∙ gate

  -- without a number of cells the words don't count
  pub image_bad : length header ≤ 17 → cells_in header ≡ None → image_of (take (length header) file) ≡ image_of file
  image_bad short none =
      let count : length header ≡ 17 = omega arith in
      ap (λ (n : ℕ). image_of (take n file)) count ∙ ap image_of (sym is)
      ∙ open_with header None (tick_in header) long gate none refl
      ∙ sym
      (open_with file None (tick_in header) inside file_gate
      (sym (cells_cut file 17 inside (omega arith)) ∙ ap cells_in (sym is) ∙ none) (sym (tick_cut file 17 inside (omega arith)) ∙ ap tick_in (sym is)))

  -- after the words no byte counts
  pub image_words : (cells : ℕ) → cells_in header ≡ Some cells → image_of (take (17 + 8 * cells) file) ≡ image_of file
  image_words cells some =
      let end = 17 + 8 * cells in
      let of_file : cells_in file ≡ Some cells = sym (cells_cut file 17 inside (omega arith)) ∙ ap cells_in (sym is) ∙ some in
      elim (cases_lt (length file) end) [
        | inl short ↦ ap image_of (take_all end file (omega (arith, short)))
        | inr room ↦ (
            let cut = take end file in
            let tick = tick_in file in
            let header_within : 17 ≤ end = omega arith in
            let all : length cut ≡ end = length-take-le end file room in
            let first : nat_le (17 + 8 * cells) (length cut) ≡ true = le-leb _ _ (omega (arith, all)) in
            let second : nat_le (17 + 8 * cells) (length file) ≡ true = le-leb _ _ room in
            let words : words_from cut 17 cells ≡ words_from file 17 cells = words_cut file end room 17 cells (omega arith) in
            let same : open_image cut (Some cells) tick ≡ open_image file (Some cells) tick = rw (first, second, words) refl in
            open_with cut (Some cells) tick (omega (arith, all)) (get_or-take end file 0 0 (omega arith) ∙ file_gate)
            (cells_cut file end room header_within ∙ of_file) (tick_cut file end room header_within)
            ∙ same
            ∙ sym (open_with file (Some cells) tick inside file_gate of_file refl))
      ]

-- ---- the bytes of an image that was read

-- an open image whose words end where its bytes do
pub image_exact : (header bytes : List ℕ) (len end tick : ℕ) (words : List ℕ) → length header ≡ min len 17 → take (length header) bytes ≡ header → length bytes ≡ min len end
    → ((cells : ℕ) → 17 ≤ length header → cells_in header ≡ Some cells → end ≤ 17 + 8 * cells) → image_of bytes ≡ Image.Open tick words → length bytes ≡ 17 + 8 * length words
image_exact header bytes len end tick words head first all exact is =
    let file = open_file bytes tick words is in
    let room : 17 + 8 * length words ≤ length bytes = file.room in
    let whole : length header ≡ 17 = omega (arith, head, all, room) in
    let long : 17 ≤ length bytes = omega (arith, room) in
    let cells : cells_in header ≡ Some (length words) =
    ap cells_in (sym first ∙ ap (λ (n : ℕ). take n bytes) whole) ∙ cells_cut bytes 17 long (omega arith)
    ∙ cells_found file.format (number_at bytes 1) (length words) file.marked_is file.some file.most in
    omega (arith, exact (length words) (omega (arith, whole)) cells, all, room)
