-- The header and the words of a target, and the opening of its gate.
use Rattle.std.proofs.Common.{rules}
use Rattle.std.proofs.Common.{◌≡◌, ◌⊎◌, inl, inr, ⊎_elim, Some, ℕ, zero, suc, ◌+◌, ◌-◌, ◌^◌, ◌<◌, ◌≤◌, List, [], ◌∷◌, ◌++◌}
use Rattle.std.proofs.Common.{IsTrue, length, get_or, take, drop, refl, sym, ◌∙◌, ap, subst, arith, length-append}
use Rattle.std.proofs.lemmas.List.{append-nil, append_assoc, drop-drop, length-take}
use Rattle.std.specs.Prelude.{Result, OnOk, OnErr}
use Rattle.std.specs.List.{list_all}
use Rattle.world_actions.specs.declared.refusal.Refusal.{Refusal}
use Rattle.disk_model.specs.Disk.{Torn, Follows, Within, Only, overwritten}
use Rattle.disk_model.proofs.TornLemmas.{torn_opening}
use Rattle.file_format.specs.Gate.{HasShutGate}
use Rattle.file_format.specs.declared.format.Format.TheVariants.{Second}
use Rattle.file_format.specs.Format.{marked_of, unmarked, marked_in}
use Rattle.file_format.proofs.FormatLemmas.{unmarked-marked_of}
use Rattle.file_format.specs.Number.{number_of, number_bytes}
use Rattle.file_format.proofs.NumberLemmas.{length-number_bytes}
use Rattle.image_files.specs.declared.answer.ImageAnswer.{ImageAnswer}
use Rattle.image_files.specs.declared.answer.ImageAnswer.TheVariants as answer
use Rattle.image_files.specs.declared.phase.Phase.{Phase}
use Rattle.image_files.specs.declared.phase.Phase.TheVariants.{Header, Taking, Opening, OpeningSync, Down}
use Rattle.image_files.specs.Image.{Image, image_of, header_bytes, cells_in, tick_in, number_at, words_from, is_word}
use Rattle.image_files.specs.Images.{IsTarget}
use Rattle.image_files.specs.Progress.{Progress, IsInOrder, PhaseFits, done, opened_keeper}
use Rattle.image_files.specs.Keeper.{HasBody, Fits, TargetFits, TargetEndures, Endures}
use Rattle.image_files.specs.Steps.{IsOpenedImage, IfOpened}
use Rattle.image_files.proofs.WordLemmas.{number_written, length-words_from}
use Rattle.image_files.proofs.SpellingLemmas.{cells_found, marked_fits, whole_reads, open_file}
use Rattle.image_files.proofs.GateLemmas.{shut_reads_closed}

-- ---- files that are alike after a place

drop_on : (xs ys : List ℕ) (p q : ℕ) → p ≤ q → drop p xs ≡ drop p ys → drop q xs ≡ drop q ys
drop_on xs ys p q le same =
    let k : p + (q - p) ≡ q = omega arith in
    ap (λ (n : ℕ). drop n xs) (sym k) ∙ sym (drop-drop (q - p) p xs) ∙ ap (drop (q - p)) same ∙ drop-drop (q - p) p ys ∙ ap (λ (n : ℕ). drop n ys) k

words_same : (xs ys : List ℕ) (place n : ℕ) → drop place xs ≡ drop place ys → words_from xs place n ≡ words_from ys place n
words_same xs ys place zero same = refl
words_same xs ys place (suc n) same =
    ap (λ (l : List ℕ). number_of 8 l ∷ words_from xs (place + 8) n) same
    ∙ ap (λ (l : List ℕ). number_at ys place ∷ l) (words_same xs ys (place + 8) n (drop_on xs ys place (place + 8) (omega arith) same))

-- after the gate they have the same words and the same body
module _ (xs ys : List ℕ) (same : drop 1 xs ≡ drop 1 ys) where
  number_behind : (place : ℕ) → 1 ≤ place → number_at xs place ≡ number_at ys place
  number_behind place le = ap (number_of 8) (drop_on xs ys 1 place le same)

  pub words_behind : (place n : ℕ) → 1 ≤ place → words_from xs place n ≡ words_from ys place n
  words_behind place n le = words_same xs ys place n (drop_on xs ys 1 place le same)

  pub body_behind : (keeper : Progress) → length xs ≡ length ys → HasBody keeper ys → HasBody keeper xs
  body_behind keeper long body = record {
    room = omega (arith, body.room);
    mark = ap unmarked (number_behind 1 (omega arith)) ∙ body.mark;
    tick = number_behind 9 (omega arith) ∙ body.tick;
    words = subst (λ (l : List ℕ). IsTrue (list_all is_word l)) (sym (words_behind 17 keeper.written (omega arith))) body.words;
  }

-- the words so far don't depend on the phase and the gate
pub done_behind : (keeper : Progress) (phase : Phase) (old new newest : List ℕ) → drop 1 new ≡ drop 1 old → done (record keeper { phase = phase }) new newest ≡ done keeper old newest
done_behind keeper phase old new newest same = search (rules, words_behind)

-- ---- the phase

pub in_phase : (keeper : Progress) {phase : Phase} → IsInOrder keeper → keeper.phase ≡ phase → PhaseFits phase keeper
in_phase keeper order is = subst (λ (p : Phase). PhaseFits p keeper) is order.by_phase

-- ---- the header

pub header_fits : (old bytes : List ℕ) (cells tick : ℕ) → 1 ≤ length old → 1 ≤ cells → cells ≤ 1048576 → tick < 256 ^ 8 → HasShutGate old → bytes ≡ header_bytes Second cells tick
    → HasShutGate (overwritten old 1 bytes) × (marked_in (overwritten old 1 bytes) ≡ Some (Second, cells)) × (tick_in (overwritten old 1 bytes) ≡ tick) × (17 ≤ length (overwritten old 1 bytes))
header_fits old bytes cells tick long some most small_tick shut is =
    let marked = marked_of Second cells in
    let file = overwritten old 1 bytes in
    let rest = drop (1 + length bytes) old in
    let front : length (take 1 old) ≡ 1 = omega (arith, length-take 1 old) in
    let size : length bytes ≡ 16 = ap length is ∙ omega (arith, length-append (number_bytes 8 marked) (number_bytes 8 tick), length-number_bytes 8 marked, length-number_bytes 8 tick) in
    let long_file : length file ≡ 1 + 16 + length rest = omega (arith, length-append (take 1 old ++ bytes) rest, length-append (take 1 old) bytes, front, size) in
    let first : file ≡ take 1 old ++ (number_bytes 8 marked ++ (number_bytes 8 tick ++ rest)) =
    append_assoc (take 1 old) bytes rest ∙ ap (λ (b : List ℕ). take 1 old ++ (b ++ rest)) is ∙ ap (λ (l : List ℕ). take 1 old ++ l) (append_assoc (number_bytes 8 marked) (number_bytes 8 tick) rest) in
    let second : file ≡ (take 1 old ++ number_bytes 8 marked) ++ (number_bytes 8 tick ++ rest) = first ∙ sym (append_assoc (take 1 old) (number_bytes 8 marked) (number_bytes 8 tick ++ rest)) in
    let gate : get_or file 0 0 ≡ get_or old 0 0 = first_kept old (bytes ++ rest) (append_assoc (take 1 old) bytes rest) long in (
      (omega (arith, long_file), λ is_open. shut.1 (sym gate ∙ is_open)),
      ap unmarked
          (ap (λ (l : List ℕ). number_at l 1) first ∙ number_written (take 1 old) (number_bytes 8 tick ++ rest) 1 marked front
          (marked_fits Second cells most)) ∙ unmarked-marked_of Second cells (omega (arith, most)),
      ap tick_in second ∙ number_written (take 1 old ++ number_bytes 8 marked) rest 9 tick
          (omega (arith, length-append (take 1 old) (number_bytes 8 marked), front, length-number_bytes 8 marked)) small_tick,
      omega (arith, long_file),
    )
  where
    first_kept : (l m : List ℕ) {n : List ℕ} → n ≡ take 1 l ++ m → 1 ≤ length l → get_or n 0 0 ≡ get_or l 0 0
    first_kept [] m same le = absurd (omega arith)
    first_kept (x ∷ l) m same le = ap (λ (k : List ℕ). get_or k 0 0) same

pub header_written : (keeper : Progress) (old new newest bytes : List ℕ) → keeper.phase ≡ Header → HasShutGate old
    → new ≡ overwritten old 1 bytes → bytes ≡ header_bytes Second keeper.cells keeper.tick → Fits keeper old newest → Fits (record keeper { phase = Taking }) new newest
header_written keeper old new newest bytes phase shut is bytes_are fits =
    let order = fits.in_order in
    let first : PhaseFits Header keeper = in_phase keeper order phase in
    let none : keeper.written ≡ 0 = first.0 in
    let taking : PhaseFits Taking keeper = omega (arith, order.some, none, ap length first.1) in
    let parts = header_fits old bytes keeper.cells keeper.tick (omega (arith, shut.0)) order.some order.most (omega (arith, order.ticks)) shut bytes_are in
    record {
      in_order = record { some = order.some; most = order.most; ticks = order.ticks; within = order.within; by_phase = taking };
      image = fits.image;
      newest_shut = fits.newest_shut;
      of_target = (
        subst HasShutGate (sym is) parts.0,
        record {
          room = omega (arith, ap length is, parts.3, none);
          mark = ap marked_in is ∙ parts.1;
          tick = ap tick_in is ∙ parts.2;
          words = ap (λ (n : ℕ). list_all is_word (words_from new 17 n)) none;
        },
      );
      chunk = fits.chunk;
    }

-- ---- the open gate

-- no cell is left to be written
pub done_whole : (keeper : Progress) (target newest : List ℕ) → keeper.chunk ≡ [] → done keeper target newest ≡ words_from target 17 keeper.written
done_whole keeper target newest none = search (rules, append-nil)

pub length_done : (keeper : Progress) (target newest : List ℕ) → keeper.written ≡ keeper.cells → keeper.chunk ≡ [] → length (done keeper target newest) ≡ keeper.cells
length_done keeper target newest all none = ap length (done_whole keeper target newest none) ∙ length-words_from target 17 keeper.written ∙ all

-- the number of cells that the header has
body_cells : (keeper : Progress) (file : List ℕ) → IsInOrder keeper → HasBody keeper file → cells_in file ≡ Some keeper.cells
body_cells keeper file order body = search (rules, cells_found, unmarked-marked_of)

-- an open gate over a whole body is an image
pub body_reads : (keeper : Progress) (file : List ℕ) → IsInOrder keeper → get_or file 0 0 ≡ 1 → HasBody keeper file → keeper.written ≡ keeper.cells
    → image_of file ≡ Image.Open keeper.tick (words_from file 17 keeper.written)
body_reads keeper file order gate body all =
    let words = words_from file 17 keeper.written in
    let count : length words ≡ keeper.written = length-words_from file 17 keeper.written in
    whole_reads file keeper.tick words gate (body_cells keeper file order body ∙ ap (λ (n : ℕ). Some n) (sym all ∙ sym count)) body.tick (ap (words_from file 17) count)
    (omega (arith, body.room, count)) order.ticks body.words

module _ (keeper : Progress) (old newest : List ℕ) (phase : keeper.phase ≡ Opening) (fits : Fits keeper old newest) where
  body : HasBody keeper old
  body = (subst (λ (p : Phase). TargetFits p keeper old) phase fits.of_target).1

  order : PhaseFits Opening keeper
  order = in_phase keeper fits.in_order phase

  open_body : HasBody keeper (overwritten old 0 (1 ∷ []))
  open_body = body_behind (overwritten old 0 (1 ∷ [])) old refl keeper (long old (omega (arith, body.room))) body
    where
      long : (l : List ℕ) → 1 ≤ length l → length (1 ∷ drop 1 l) ≡ length l
      long [] le = absurd (omega arith)
      long (x ∷ l) le = refl

  pub opening_fits : (new : List ℕ) → new ≡ overwritten old 0 (1 ∷ []) → Fits (record keeper { phase = OpeningSync }) new newest
  opening_fits new is = record {
    in_order = record { some = fits.in_order.some; most = fits.in_order.most; ticks = fits.in_order.ticks; within = fits.in_order.within; by_phase = order };
    image = fits.image;
    newest_shut = fits.newest_shut;
    of_target = (ap (λ (l : List ℕ). get_or l 0 0) is, same_keeper new (subst (HasBody keeper) (sym is) open_body));
    chunk = fits.chunk;
  }
    where
      same_keeper : (file : List ℕ) → HasBody keeper file → HasBody (record keeper { phase = OpeningSync }) file
      same_keeper file b = record { room = b.room; mark = b.mark; tick = b.tick; words = b.words }

  -- a gate whose write was torn leaves a closed file, or the whole image
  gate_outcome : (left : List ℕ) → Torn 0 1 old left → (image_of left ≡ Image.Closed) ⊎ (image_of left ≡ Image.Open keeper.tick (done keeper old newest))
  gate_outcome left torn = elim (torn_opening old left (omega (arith, body.room)) torn) [
    | inl shut ↦ inl (shut_reads_closed left shut)
    | inr is ↦ inr (
        ap image_of is
        ∙ body_reads keeper (overwritten old 0 (1 ∷ [])) fits.in_order refl open_body order.0
        ∙ ap (Image.Open keeper.tick) (words_behind (overwritten old 0 (1 ∷ [])) old refl 17 keeper.written (omega arith) ∙ sym (done_whole keeper old newest order.1)))
  ]

  -- the bytes that a crash leaves after the write, whole or not
  module _ (new : List ℕ) (same : drop 1 new ≡ drop 1 old) (before after : List ℕ → Type 0)
      (follows : Follows (Torn 0 1) before after) (read : Image) (stood : TargetEndures keeper.phase keeper read old newest before) where
    left_so : (left : List ℕ) → after left → (image_of left ≡ Image.Closed) ⊎ (image_of left ≡ Image.Open keeper.tick (done keeper old newest))
    left_so left outcome = search (rules, gate_outcome)

    pub opening_endures : TargetEndures OpeningSync (record keeper { phase = OpeningSync }) read new newest after
    opening_endures left outcome =
        subst (λ (words : List ℕ). (image_of left ≡ Image.Closed) ⊎ (image_of left ≡ Image.Open keeper.tick words)) (sym (done_behind keeper OpeningSync old new newest same)) (left_so left outcome)

    pub opening_down : TargetEndures Down (record keeper { phase = Down }) read new newest after
    opening_down left outcome =
        subst (λ (words : List ℕ). IsTarget keeper.cells read (Some (record { tick = keeper.tick; taken = words })) (image_of left)) (sym (done_behind keeper Down old new newest same))
        (inr (⊎_elim (λ closed. inl closed) (λ is. inr (is, length_done keeper old newest order.0 order.1)) (left_so left outcome)))

-- if the open gate can't be made durable, a crash leaves a closed file or the whole image
pub opened_down : (keeper : Progress) (old newest : List ℕ) → keeper.phase ≡ OpeningSync → Fits keeper old newest → (new : List ℕ) → new ≡ old → (before after : List ℕ → Type 0) → Within before after
    → (read : Image) → TargetEndures keeper.phase keeper read old newest before → TargetEndures Down (record keeper { phase = Down }) read new newest after
opened_down keeper old newest phase fits new same before after within read stood left outcome = search (rules, done_behind, in_phase, length_done, order)

-- if it is made durable, the image is opened, and the files have exchanged their parts
module _ (keeper : Progress) (old newest : List ℕ) (phase : keeper.phase ≡ OpeningSync) (fits : Fits keeper old newest) (new : List ℕ) (same : new ≡ old) where
  opened_order : PhaseFits OpeningSync keeper
  opened_order = in_phase keeper fits.in_order phase

  opened_target : TargetFits OpeningSync keeper old
  opened_target = subst (λ (p : Phase). TargetFits p keeper old) phase fits.of_target

  opened_reads : image_of new ≡ Image.Open keeper.tick (words_from old 17 keeper.written)
  opened_reads = ap image_of same ∙ body_reads keeper old fits.in_order opened_target.0 opened_target.1 opened_order.0

  pub opened_fits : Fits (opened_keeper keeper) newest new
  opened_fits = search (rules, opened_order, opened_reads)

  pub opened_image : (after : List ℕ → Type 0) → Only old after → (tick : ℕ) → tick ≡ keeper.tick → IsOpenedImage keeper (done keeper old newest) new after tick
  opened_image after only tick of_the_round = record {
    of_the_round = of_the_round;
    image = opened_reads ∙ ap (λ (t : ℕ). Image.Open t (words_from old 17 keeper.written)) (sym of_the_round) ∙ ap (Image.Open tick) (sym (done_whole keeper old newest opened_order.1));
    whole = length_done keeper old newest opened_order.0 opened_order.1;
    mark = ap marked_in same ∙ opened_target.1.mark;
    durable = λ left outcome. only left outcome ∙ sym same;
  }

-- the bytes that a crash may leave then
pub opened_endures : (keeper : Progress) (old newest new words : List ℕ) (before beside after : List ℕ → Type 0) (tick : ℕ) (read : Image) → IsOpenedImage keeper words new after tick
    → Endures keeper read old newest before beside → Endures (opened_keeper keeper) (image_of newest) newest new beside after
opened_endures keeper old newest new words before beside after tick read image stood = record {
  newest_stays = image.durable;
  newest_not_shut = λ not_shut. inr (open_file new tick words image.image).gate;
  of_target = (stood.newest_stays, refl, stood.newest_not_shut);
}

-- ---- a call that is the whole step

-- facts of a call that succeeded, or of one that failed
pub on_ok : {T E P Q : Type 0} (r : Result T E) → (P → Q) → OnOk r P → OnOk r Q
on_ok b f is = search rules

pub on_err : {T E P Q : Type 0} (r : Result T E) → (P → Q) → OnErr r P → OnErr r Q
on_err b f is = search rules

-- the claim of a known phase
pub claim_at : {keeper : Progress} {phase : Phase} {before : Image} {file newest : List ℕ} {outcomes beside : List ℕ → Type 0} → keeper.phase ≡ phase
    → Endures keeper before file newest outcomes beside → TargetEndures phase keeper before file newest outcomes
claim_at {keeper = keeper} {before = before} {file = file} {newest = newest} {outcomes = outcomes} is stood =
    subst (λ (p : Phase). TargetEndures p keeper before file newest outcomes) is stood.of_target

-- the keeper goes on to the next phase, or goes down if the call failed
module _ (call : Result (Unit {0}) Refusal) (given : ImageAnswer) (old new : Progress) (next : Phase)
    (ok : OnOk call ((given ≡ answer.Working) × (new ≡ record old { phase = next }))) (failed : OnErr call ((given ≡ answer.Down) × (new ≡ record old { phase = Down }))) where
  pub followed : (P : Progress → Type 0) (Q : Type 0) → OnOk call (P (record old { phase = next })) → OnErr call (P (record old { phase = Down })) → IfOpened given Q (P new)
  followed b d = search rules

  -- the newest image's file stays
  pub follow_endures : (file_after : List ℕ) (outcomes_after : List ℕ → Type 0) {before : Image} {file newest : List ℕ} {outcomes beside : List ℕ → Type 0}
      → Endures old before file newest outcomes beside → OnOk call (TargetEndures next (record old { phase = next }) before file_after newest outcomes_after)
      → OnErr call (TargetEndures Down (record old { phase = Down }) before file_after newest outcomes_after)
      → IfOpened given (Endures new (image_of newest) newest file_after beside outcomes_after) (Endures new before file_after newest outcomes_after beside)
  follow_endures file_after outcomes_after {before = before} {newest = newest} {beside = beside} stood one other =
      followed (λ (p : Progress). Endures p before file_after newest outcomes_after beside) (Endures new (image_of newest) newest file_after beside outcomes_after)
      (on_ok call (in_phase_now next) one) (on_err call (in_phase_now Down) other)
    where
      in_phase_now : (phase : Phase) → TargetEndures phase (record old { phase = phase }) before file_after newest outcomes_after
          → Endures (record old { phase = phase }) before file_after newest outcomes_after beside
      in_phase_now phase claim = record { newest_stays = stood.newest_stays; newest_not_shut = stood.newest_not_shut; of_target = claim }
