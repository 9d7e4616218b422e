-- The write of a chunk.
use Rattle.std.proofs.Common.{rules}
use Rattle.std.proofs.Common.{◌≡◌, inl, inr, ℕ, zero, suc, ◌+◌, ◌*◌, ◌<◌, ◌≤◌, List, [], ◌∷◌, ◌++◌, true, false, ◌==◌, length, take, drop, refl, sym, ◌∙◌, ap, subst, arith, length-append}
use Rattle.std.proofs.lemmas.List.{append_assoc, append-nil, length-take, take-take, get_or-take, take_at, drop-take}
use Rattle.std.proofs.lemmas.List.Folds.{list_all-append}
use Rattle.std.proofs.lemmas.Bool.{cases_Bool}
use Rattle.std.proofs.lemmas.Bool.Decides.{nat_tests}
use Rattle.std.specs.Prelude.{is_some}
use Rattle.std.specs.List.{list_all, flat_map}
use Rattle.disk_model.specs.Disk.{Torn, Follows, overwritten}
use Rattle.file_format.specs.Gate.{HasShutGate}
use Rattle.file_format.specs.Format.{unmarked}
use Rattle.file_format.specs.Number.{number_bytes}
use Rattle.capture_core.specs.declared.taker.Taken.{Taken}
use Rattle.capture_core.specs.declared.taker.Taken.TheVariants.{Word, Same}
use Rattle.image_files.specs.declared.phase.Phase.{Phase}
use Rattle.image_files.specs.declared.phase.Phase.TheVariants.{Taking, Writing, BodySync, Down}
use Rattle.image_files.specs.Image.{Image, number_at, words_from, is_word}
use Rattle.image_files.specs.Taken.{filled_words, has_same}
use Rattle.image_files.specs.Progress.{Progress, PhaseFits, IsInOrder, newest_words, done}
use Rattle.image_files.specs.Calls.{after_chunk, with_chunk_written}
use Rattle.image_files.specs.Keeper.{AllShut, HasBody, Fits, TargetFits, TargetEndures}
use Rattle.image_files.proofs.WordLemmas.{number_same, words_from-append}
use Rattle.image_files.proofs.SpellingLemmas.{words_written}
use Rattle.image_files.proofs.ChunkLemmas.{length-flat_map, length-filled_words}
use Rattle.image_files.proofs.GateLemmas.{shut_reads_closed, follows_shut}
use Rattle.image_files.proofs.BodyLemmas.{in_phase}

-- ---- files that are alike in front of a place

pub number_before : (xs ys : List ℕ) (at place : ℕ) → take at xs ≡ take at ys → place + 8 ≤ at → at ≤ length xs → at ≤ length ys → number_at xs place ≡ number_at ys place
number_before xs ys at place same inside long_x long_y =
    number_same xs ys place place (omega arith) (omega arith) (front xs ∙ ap (λ (l : List ℕ). take 8 (drop place l)) same ∙ sym (front ys))
  where
    front : (l : List ℕ) → take 8 (drop place l) ≡ take 8 (drop place (take at l))
    front l = sym (drop-take place 8 l) ∙ ap (drop place) (sym (take-take (place + 8) at l inside)) ∙ drop-take place 8 (take at l)

pub words_before : (xs ys : List ℕ) (at place n : ℕ) → take at xs ≡ take at ys → place + 8 * n ≤ at → at ≤ length xs → at ≤ length ys → words_from xs place n ≡ words_from ys place n
words_before xs ys at place zero same inside long_x long_y = refl
words_before xs ys at place (suc n) same inside long_x long_y =
    ap (λ (x : ℕ). x ∷ words_from xs (place + 8) n) (number_before xs ys at place same (omega arith) long_x long_y)
    ∙ ap (λ (l : List ℕ). number_at ys place ∷ l) (words_before xs ys at (place + 8) n same (omega arith) long_x long_y)

-- ---- chunks without a word of the newest image

same_words : (cells : List Taken) (a b : List ℕ) → has_same cells ≡ false → filled_words cells a ≡ filled_words cells b
same_words [] a b none = refl
same_words (Word w ∷ cells) a b none = ap (λ (l : List ℕ). w ∷ l) (same_words cells (drop 1 a) (drop 1 b) none)
same_words (Same ∷ cells) a b none = absurd (cc none)

drop_nil : (n : ℕ) → drop {A = ℕ} n [] ≡ []
drop_nil b = search rules

filled_own : (keeper : Progress) (newest : List ℕ) → (is_some keeper.newest ≡ true → has_same keeper.chunk ≡ false)
    → filled_words keeper.chunk (drop keeper.written (newest_words keeper newest)) ≡ filled_words keeper.chunk []
filled_own keeper newest read = elim (cases_Bool (is_some keeper.newest)) [
  | inl some ↦ same_words keeper.chunk (drop keeper.written (newest_words keeper newest)) [] (read some)
  | inr none ↦ rw (none, drop_nil keeper.written) refl
]

-- ---- the chunk in the target

module _ (keeper : Progress) (old newest : List ℕ) (phase : keeper.phase ≡ Writing) (fits : Fits keeper old newest) where
  abbrev words : List ℕ
  words = filled_words keeper.chunk []

  abbrev at : ℕ
  at = 17 + 8 * keeper.written

  abbrev bytes : List ℕ
  bytes = flat_map (number_bytes 8) words

  abbrev rest : List ℕ
  rest = drop (at + length bytes) old

  abbrev new : List ℕ
  new = overwritten old at bytes

  target : HasShutGate old × HasBody keeper old
  target = subst (λ (p : Phase). TargetFits p keeper old) phase fits.of_target

  body : HasBody keeper old
  body = target.1

  order : PhaseFits Writing keeper
  order = in_phase keeper fits.in_order phase

  front : length (take at old) ≡ at
  front = omega (arith, length-take at old, body.room)

  size : length bytes ≡ 8 * length keeper.chunk
  size = omega (arith, length-flat_map words, length-filled_words keeper.chunk [])

  parts : new ≡ take at old ++ (bytes ++ rest)
  parts = append_assoc (take at old) bytes rest

  long : at + 8 * length keeper.chunk ≤ length new
  long = omega (arith, length-append (take at old ++ bytes) rest, length-append (take at old) bytes, front, size)

  kept : take at new ≡ take at old
  kept = ap (λ (l : List ℕ). take at l) parts ∙ take_at (take at old) (bytes ++ rest) at front

  words_after : words_from new 17 (keeper.written + length keeper.chunk) ≡ words_from old 17 keeper.written ++ words
  words_after = search (rules, body, front, kept, length-filled_words, long, parts, words_before, words_from-append, words_written)

  pub chunk_done : done (with_chunk_written keeper) new newest ≡ done keeper old newest
  chunk_done = search (rules, append-nil, filled_own, order, words_after)

  shut_after : HasShutGate new
  shut_after = search (rules, get_or-take, kept, long, target)

  abbrev after : Phase → Progress
  after next = record keeper { phase = next; chunk = []; written = keeper.written + length keeper.chunk }

  body_after : (next : Phase) → HasBody (after next) new
  body_after next = record {
    room = omega (arith, long);
    mark = ap unmarked (number_before new old at 1 kept (omega arith) (omega (arith, long)) (omega (arith, body.room))) ∙ body.mark;
    tick = number_before new old at 9 kept (omega arith) (omega (arith, long)) (omega (arith, body.room)) ∙ body.tick;
    words = ap (list_all is_word) words_after ∙ list_all-append is_word (words_from old 17 keeper.written) words ∙ rw (body.words, fits.chunk) refl;
  }

  -- the round continues, or all is written
  by_count : (P : Phase → Type 0) → (keeper.written + length keeper.chunk < keeper.cells → P Taking) → (keeper.written + length keeper.chunk ≡ keeper.cells → P BodySync) → P (after_chunk keeper)
  by_count P more all = elim (cases_Bool (keeper.written + length keeper.chunk == keeper.cells)) [
    | inl whole ↦ let same : keeper.written + length keeper.chunk ≡ keeper.cells = grind (arith, nat_tests) in rw whole (all same)
    | inr part ↦ let less : keeper.written + length keeper.chunk < keeper.cells = let inside = fits.in_order.within in grind (arith, nat_tests) in rw part (more less)
  ]

  pub chunk_fits : Fits (with_chunk_written keeper) new newest
  chunk_fits =
      let order_of : (next : Phase) → PhaseFits next (after next) → IsInOrder (after next) = λ next by_phase.
      record { some = fits.in_order.some; most = fits.in_order.most; ticks = fits.in_order.ticks; within = omega (arith, fits.in_order.within); by_phase = by_phase } in
      by_count (λ next. Fits (after next) new newest)
      (λ less. record { in_order = order_of Taking (omega (arith, less)); image = fits.image; newest_shut = fits.newest_shut; of_target = (shut_after, body_after Taking); chunk = refl })
      (λ all. record { in_order = order_of BodySync (all, refl); image = fits.image; newest_shut = fits.newest_shut; of_target = (shut_after, body_after BodySync); chunk = refl })

  -- a torn write leaves the words so far
  pub torn_done : (torn : List ℕ) (n : ℕ) → Torn at n old torn → done (record keeper { phase = Down }) torn newest ≡ done keeper old newest
  torn_done torn n is = search (rules, body, words_before)

  -- whole or not, it leaves the gate
  module _ (file : List ℕ) (n : ℕ) (before after_write : List ℕ → Type 0) (follows : Follows (Torn at n) before after_write)
      (read : Image) (stood : TargetEndures keeper.phase keeper read old newest before) where
    still_shut : AllShut after_write
    still_shut = follows_shut at n before after_write (omega arith) follows (subst (λ (p : Phase). TargetEndures p keeper read old newest before) phase stood)

    pub chunk_endures : TargetEndures (after_chunk keeper) (with_chunk_written keeper) read file newest after_write
    chunk_endures = by_count (λ next. TargetEndures next (after next) read file newest after_write) (λ less. still_shut) (λ all. still_shut)

    pub chunk_down : TargetEndures Down (record keeper { phase = Down }) read file newest after_write
    chunk_down left outcome = inr (inl (shut_reads_closed left (still_shut left outcome)))
