-- The read of a chunk from the newest image.
use Rattle.std.proofs.Common.{rules}
use Rattle.std.proofs.Common.{◌≡◌, ℕ, zero, suc, ◌+◌, ◌-◌, ◌*◌, ◌≤◌, List, [], ◌∷◌, ◌++◌, Bool, Option, true, false, ◌&&◌, length, take, drop, refl, sym, ◌∙◌, ap, subst, arith}
use Rattle.std.proofs.lemmas.List.{take-take, drop-drop, drop-take, drop_at, length-map}
use Rattle.std.proofs.lemmas.List.Folds.{list_all-append}
use Rattle.std.specs.Prelude.{is_some, map, IfSome}
use Rattle.std.specs.List.{list_all}
use Rattle.file_format.specs.declared.slot.Slot.{Slot}
use Rattle.capture_core.specs.declared.taker.Taken.{Taken}
use Rattle.capture_core.specs.declared.taker.Taken.TheVariants.{Word, Same}
use Rattle.image_files.specs.declared.phase.Phase.{Phase}
use Rattle.image_files.specs.declared.phase.Phase.TheVariants.{Reading, Writing}
use Rattle.image_files.specs.Image.{Image, image_of, number_at, words_from, is_word}
use Rattle.image_files.specs.Taken.{filled_words, word_of, has_same}
use Rattle.image_files.specs.Progress.{Progress, PhaseFits, IsInOrder, newest_words, done}
use Rattle.image_files.specs.Calls.{read_cells}
use Rattle.image_files.specs.Keeper.{Fits, TargetFits}
use Rattle.image_files.proofs.WordLemmas.{number_same, words_from-append, length-words_from}
use Rattle.image_files.proofs.SpellingLemmas.{both, open_file}
use Rattle.image_files.proofs.ChunkLemmas.{length-filled_words}
use Rattle.image_files.proofs.BodyLemmas.{in_phase}

-- ---- words in a buffer

words_shift : (xs ys : List ℕ) (a p n m : ℕ) → take m xs ≡ take m (drop p ys) → a + 8 * n ≤ m → m ≤ length xs → p + m ≤ length ys → words_from xs a n ≡ words_from ys (p + a) n
words_shift xs ys a p zero m same inside long_x long_y = refl
words_shift xs ys a p (suc n) m same inside long_x long_y =
    let number : number_at xs a ≡ number_at ys (p + a) = number_same xs ys a (p + a) (omega arith) (omega arith)
    (front xs ∙ ap (λ (l : List ℕ). take 8 (drop a l)) same ∙ sym (front (drop p ys)) ∙ ap (take 8) (drop-drop a p ys)) in
    let next : p + a + 8 ≡ p + (a + 8) = omega arith in
    ap (λ (x : ℕ). x ∷ words_from xs (a + 8) n) number
    ∙ ap (λ (l : List ℕ). number_at ys (p + a) ∷ l) (words_shift xs ys (a + 8) p n m same (omega arith) long_x long_y ∙ ap (λ (q : ℕ). words_from ys q n) (sym next))
  where
    front : (l : List ℕ) → take 8 (drop a l) ≡ take 8 (drop a (take m l))
    front l =
        let inside_a : a + 8 ≤ m = omega arith in
        sym (drop-take a 8 l) ∙ ap (drop a) (sym (take-take (a + 8) m l inside_a)) ∙ drop-take a 8 (take m l)

pub words_read : (xs ys : List ℕ) (p n : ℕ) → take (8 * n) xs ≡ take (8 * n) (drop p ys) → 8 * n ≤ length xs → p + 8 * n ≤ length ys → words_from xs 0 n ≡ words_from ys p n
words_read xs ys p n same long_x long_y = search (rules, words_shift)

-- ---- cells with words of their own

filled_words-map : (words old : List ℕ) → filled_words (map (λ (word : ℕ). Word word) words) old ≡ words
filled_words-map [] old = refl
filled_words-map (w ∷ words) old = ap (λ (l : List ℕ). w ∷ l) (filled_words-map words (drop 1 old))

same_map : (words : List ℕ) → has_same (map (λ (word : ℕ). Word word) words) ≡ false
same_map [] = refl
same_map (w ∷ words) = same_map words

filled_words-front : (cells : List Taken) (a b : List ℕ) → length a ≡ length cells → filled_words cells (a ++ b) ≡ filled_words cells a
filled_words-front [] a b same = refl
filled_words-front (c ∷ cells) [] b same = absurd (omega (arith, same))
filled_words-front (c ∷ cells) (x ∷ a) b same = ap (λ (l : List ℕ). word_of c x ∷ l) (filled_words-front cells a b (omega (arith, same)))

both_true : (a b : Bool) → a ≡ true → b ≡ true → (a && b) ≡ true
both_true a b x y = rw (x, y) refl

limit_filled : (cells : List Taken) (old : List ℕ) → list_all is_word (filled_words cells []) ≡ true → list_all is_word old ≡ true → list_all is_word (filled_words cells old) ≡ true
limit_filled [] old small known = refl
limit_filled (Word w ∷ cells) [] small known = small
limit_filled (Word w ∷ cells) (x ∷ old) small known =
    let here = both (is_word w) (list_all is_word (filled_words cells [])) small in
    both_true (is_word w) (list_all is_word (filled_words cells old)) here.0 (limit_filled cells old here.1 (both (is_word x) (list_all is_word old) known).1)
limit_filled (Same ∷ cells) [] small known = small
limit_filled (Same ∷ cells) (x ∷ old) small known =
    let here = both (is_word 0) (list_all is_word (filled_words cells [])) small in
    let there = both (is_word x) (list_all is_word old) known in
    both_true (is_word x) (list_all is_word (filled_words cells old)) there.0 (limit_filled cells old here.1 there.1)

-- ---- the newest image

image_in : (newest : Option (Slot × ℕ)) (file words : List ℕ) → IfSome newest (λ image. image_of file ≡ Image.Open image.1 words)
    → is_some newest ≡ true → (tick : ℕ) × (image_of file ≡ Image.Open tick words)
image_in b file words is some = search rules

-- the newest image's file has room for its words, and cells may hold these
newest_file : (keeper : Progress) (target newest : List ℕ) → Fits keeper target newest → is_some keeper.newest ≡ true
    → (17 + 8 * keeper.cells ≤ length newest) × (list_all is_word (words_from newest 17 keeper.cells) ≡ true)
newest_file keeper target newest fits some =
    let words = words_from newest 17 keeper.cells in
    let image = image_in keeper.newest newest words fits.image some in
    let file = open_file newest image.0 words image.1 in
    (omega (arith, file.room, length-words_from newest 17 keeper.cells), file.pass)

-- a chunk is read of one that is there
pub room_in : (keeper : Progress) (newest : List ℕ) → keeper.phase ≡ Reading → (target : List ℕ) × Fits keeper target newest → 17 + 8 * keeper.cells ≤ length newest
room_in keeper newest phase image =
    let order = in_phase keeper image.1.in_order phase in
    (newest_file keeper image.0 newest image.1 order.2).0

-- ---- the keeper after the read

abbrev read : Progress → List Taken → Progress
read keeper chunk = record keeper { phase = Writing; chunk = chunk }

-- whatever was read, no cell's word is the newest image's any more
pub read_in_order : (keeper : Progress) (words : List ℕ) → IsInOrder keeper → keeper.phase ≡ Reading → IsInOrder (read keeper (map (λ (word : ℕ). Word word) (filled_words keeper.chunk words)))
read_in_order keeper words order phase = search (rules, in_phase, length-filled_words, length-map, same_map)

module _ (keeper : Progress) (target newest : List ℕ) (phase : keeper.phase ≡ Reading) (fits : Fits keeper target newest) where
  order : PhaseFits Reading keeper
  order = in_phase keeper fits.in_order phase

  abbrev words : List ℕ
  words = words_from newest 17 keeper.cells

  abbrev place : ℕ
  place = 17 + 8 * keeper.written

  abbrev here : List ℕ
  here = words_from newest place (length keeper.chunk)

  abbrev more : ℕ
  more = keeper.cells - keeper.written - length keeper.chunk

  abbrev behind : List ℕ
  behind = words_from newest (place + 8 * length keeper.chunk) more

  parts : words ≡ words_from newest 17 keeper.written ++ (here ++ behind)
  parts =
      let count : keeper.cells ≡ keeper.written + (length keeper.chunk + more) = omega (arith, fits.in_order.within) in
      ap (words_from newest 17) count ∙ words_from-append newest 17 keeper.written (length keeper.chunk + more) ∙ ap
      (λ (l : List ℕ). words_from newest 17 keeper.written ++ l) (words_from-append newest place (length keeper.chunk) more)

  old_words : drop keeper.written (newest_words keeper newest) ≡ here ++ behind
  old_words = rw (order.2) (ap (drop keeper.written) parts ∙ drop_at (words_from newest 17 keeper.written) (here ++ behind) keeper.written (length-words_from newest 17 keeper.written))

  pub read_done : done (read keeper (read_cells keeper newest)) target newest ≡ done keeper target newest
  read_done = search (rules, filled_words-front, filled_words-map, length-words_from, old_words)

  pass : list_all is_word here ≡ true
  pass =
      let all = (newest_file keeper target newest fits order.2).1 in
      let first = both (list_all is_word (words_from newest 17 keeper.written)) (list_all is_word (here ++ behind))
      (sym (list_all-append is_word (words_from newest 17 keeper.written) (here ++ behind)) ∙ ap (list_all is_word) (sym parts) ∙ all) in
      (both (list_all is_word here) (list_all is_word behind) (sym (list_all-append is_word here behind) ∙ first.1)).0

  pub read_fits : Fits (read keeper (read_cells keeper newest)) target newest
  read_fits =
      let part = subst (λ (p : Phase). TargetFits p keeper target) phase fits.of_target in
      record {
        in_order = read_in_order keeper here fits.in_order phase;
        image = fits.image;
        newest_shut = fits.newest_shut;
        of_target = (part.0, record { room = part.1.room; mark = part.1.mark; tick = part.1.tick; words = part.1.words });
        chunk = ap (list_all is_word) (filled_words-map (filled_words keeper.chunk here) []) ∙ limit_filled keeper.chunk here fits.chunk pass;
      }
