-- The facts that a take keeps.
use Rattle.std.proofs.Common.{rules}
use Rattle.std.proofs.Common.{◌≡◌, inl, inr, ℕ, ◌+◌, ◌<◌, ◌≤◌, List, [], ◌∷◌, ◌++◌, true, Option, Some, None, length, get_or, drop, sym, ◌∙◌, ap, subst, arith, length-append}
use Rattle.std.proofs.lemmas.List.{append_assoc, get_or-drop}
use Rattle.std.proofs.lemmas.List.Folds.{list_all-append}
use Rattle.std.proofs.lemmas.Bool.{cases_Bool}
use Rattle.std.proofs.lemmas.Bool.Decides.{nat_tests}
use Rattle.std.specs.Prelude.{nat_lt, is_some}
use Rattle.std.specs.List.{list_all}
use Rattle.capture_core.specs.declared.taker.Taken.{Taken}
use Rattle.capture_core.specs.Taken.{IsTakenWord}
use Rattle.image_files.specs.declared.phase.Phase.{Phase}
use Rattle.image_files.specs.declared.phase.Phase.TheVariants.{Taking, Reading, Writing}
use Rattle.image_files.specs.Image.{Image, words_from, is_word}
use Rattle.image_files.specs.Taken.{filled_words, word_of, has_same}
use Rattle.image_files.specs.Progress.{Progress, PhaseFits, IsInOrder, chunk_size, newest_words, done, cells_taken}
use Rattle.image_files.specs.Keeper.{HasBody, Fits, TargetFits, TargetEndures, Endures}
use Rattle.image_files.specs.Steps.{TookWord}
use Rattle.image_files.specs.Calls.{after_take, with_taken_cell, TookCell}
use Rattle.image_files.proofs.WordLemmas.{length-words_from}
use Rattle.image_files.proofs.ChunkLemmas.{filled_words-push, length-filled_words}
use Rattle.image_files.proofs.BodyLemmas.{in_phase}

limit : (cell : Taken) (n : ℕ) → IsTakenWord cell → is_word (word_of cell (get_or [] n 0)) ≡ true
limit b n le = search (rules, nat_tests)

chunk_pass : (cells : List Taken) (cell : Taken) → IsTakenWord cell → list_all is_word (filled_words cells []) ≡ true → list_all is_word (filled_words (cells ++ cell ∷ []) []) ≡ true
chunk_pass cells cell le all = search (rules, filled_words-push, limit, list_all-append)

-- each taken cell has its word
pub length-done : (keeper : Progress) (target newest : List ℕ) → length (done keeper target newest) ≡ cells_taken keeper
length-done keeper target newest = search (rules, length-append, length-filled_words, length-words_from)

-- a cell is taken
module _ (keeper : Progress) (cell : Taken) (phase : keeper.phase ≡ Taking) (order : IsInOrder keeper) where
  abbrev chunk : List Taken
  chunk = keeper.chunk ++ cell ∷ []

  abbrev took : Phase → Progress
  took next = record keeper { chunk = chunk; phase = next }

  short : PhaseFits Taking keeper
  short = in_phase keeper order phase

  count : length chunk ≡ length keeper.chunk + 1
  count = length-append keeper.chunk (cell ∷ [])

  -- the three phases that may follow
  by_cases : (P : Phase → Type 0) → (PhaseFits Taking (took Taking) → P Taking) → (PhaseFits Reading (took Reading) → P Reading)
      → (PhaseFits Writing (took Writing) → P Writing) → P (after_take keeper chunk)
  by_cases P more read write = elim (cases_Bool (nat_lt (length chunk) (chunk_size keeper))) [
    | inl less ↦ let below : length chunk < chunk_size keeper = grind (arith, nat_tests) in rw less (more below)
    | inr full ↦
        let long : chunk_size keeper ≤ length chunk = grind (arith, nat_tests) in
        let all : length chunk ≡ chunk_size keeper = omega (arith, short, count) in
        let some : keeper.written < keeper.cells = omega (arith, short) in
        elim (cases_Bool (is_some keeper.newest)) [
          | inl image ↦ elim (cases_Bool (has_same chunk)) [
            | inl same ↦ rw (full, image, same) (read (all, some, image))
            | inr none ↦ rw (full, image, none) (write (all, some, λ h. none))
          ]
          | inr no_image ↦ rw (full, no_image) (write (all, some, λ h. absurd (cc (h, no_image))))
        ]
  ]

  in_order_after : (next : Phase) → PhaseFits next (took next) → IsInOrder (took next)
  in_order_after next by_phase = record { some = order.some; most = order.most; ticks = order.ticks; within = omega (arith, order.within, short, count); by_phase = by_phase }

  module _ (target newest : List ℕ) where
    took_fits : IsTakenWord cell → Fits keeper target newest → Fits (with_taken_cell cell keeper) target newest
    took_fits le fits =
        let part = subst (λ (p : Phase). TargetFits p keeper target) phase fits.of_target in
        let pass = chunk_pass keeper.chunk cell le fits.chunk in
        let body : (next : Phase) → HasBody (took next) target = λ next. record { room = part.1.room; mark = part.1.mark; tick = part.1.tick; words = part.1.words } in
        let taken : (next : Phase) → PhaseFits next (took next) → TargetFits next (took next) target → Fits (took next) target newest = λ next by_phase of_target.
        record { in_order = in_order_after next by_phase; image = fits.image; newest_shut = fits.newest_shut; of_target = of_target; chunk = pass } in
        by_cases (λ next. Fits (took next) target newest)
        (λ by_phase. taken Taking by_phase (part.0, body Taking))
        (λ by_phase. taken Reading by_phase (part.0, body Reading))
        (λ by_phase. taken Writing by_phase (part.0, body Writing))

    took_endures : (before : Image) (outcomes : List ℕ → Type 0) → TargetEndures keeper.phase keeper before target newest outcomes
        → TargetEndures (after_take keeper chunk) (with_taken_cell cell keeper) before target newest outcomes
    took_endures before outcomes stood = search (rules, by_cases)

    -- its word is at its place
    took_word : done (with_taken_cell cell keeper) target newest ≡ done keeper target newest ++ word_of cell (get_or (newest_words keeper newest) (length (done keeper target newest)) 0) ∷ []
    took_word =
        let written = words_from target 17 keeper.written in
        let old = drop keeper.written (newest_words keeper newest) in
        let so_far = filled_words keeper.chunk old in
        let place : keeper.written + length keeper.chunk ≡ length (done keeper target newest) = sym (length-done keeper target newest) in
        ap (λ (l : List ℕ). written ++ l) (filled_words-push keeper.chunk cell old)
        ∙ sym (append_assoc written so_far (word_of cell (get_or old (length keeper.chunk) 0) ∷ []))
        ∙ ap (λ (x : ℕ). done keeper target newest ++ word_of cell x ∷ [])
        (get_or-drop keeper.written (newest_words keeper newest) (length keeper.chunk) 0 ∙ ap (λ (n : ℕ). get_or (newest_words keeper newest) n 0) place)

-- a take that may have given no cell
pub take_fits : (cell : Option Taken) (old new : Progress) (target newest : List ℕ) → old.phase ≡ Taking → TookCell cell old new → Fits old target newest → Fits new target newest
take_fits None old new target newest phase same fits = subst (λ (k : Progress). Fits k target newest) (sym same) fits
take_fits (Some cell) old new target newest phase took fits =
    subst (λ (k : Progress). Fits k target newest) (sym took.1) (took_fits old cell phase fits.in_order target newest took.0 fits)

pub take_word : (cell : Option Taken) (old new : Progress) (target newest : List ℕ) → old.phase ≡ Taking → IsInOrder old
    → TookCell cell old new → TookWord cell old newest (done old target newest) (done new target newest)
take_word b old new target newest phase order same = search (rules, took_word)

pub take_endures : (cell : Option Taken) (old new : Progress) (before : Image) (target newest : List ℕ)
    (target_outcomes newest_outcomes : List ℕ → Type 0) → old.phase ≡ Taking → IsInOrder old → TookCell cell old new
    → Endures old before target newest target_outcomes newest_outcomes → Endures new before target newest target_outcomes newest_outcomes
take_endures b old new before target newest target_outcomes newest_outcomes phase order same endures = search (rules, took_endures)
