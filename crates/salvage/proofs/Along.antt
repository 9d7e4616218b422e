-- The log along which what is taken is replayed.
use Rattle.std.proofs.Common.{rules}
use Rattle.std.proofs.Common.{◌≡◌, ℕ, ◌+◌, ◌⊎◌, inl, inr, Bool, true, false, cond, eqb, ◌||◌, List, [], length, Option, Some, None, Result, Ok, Err, refl, sym, ap, subst, ◌∙◌, add-zero, eq-eqb}
use Rattle.std.specs.Prelude.{IsOk, IfErr, IsErrAnd}
use Rattle.std.proofs.lemmas.Bool.{cond-true, cond-false, eqb-true}
use Rattle.std.proofs.lemmas.List.{append-nil}
use Rattle.world_actions.specs.declared.refusal.Refusal.{Refusal}
use Rattle.world_actions.specs.declared.refusal.Refusal.TheVariants.{NoImage, BadImage, BadLog}
use Rattle.image_files.specs.Image.{Image, image_of}
use Rattle.action_log.specs.Segment.{Tick, joined, Segment, ClosedSegment, OpenSegment, IsSegment}
use Rattle.action_log.proofs.ReadingLemmas.{reads_once}
use Rattle.recovery.specs.Recovery.{Recovery, Recovers, Newest, newest, has_base, ticks_from, ticks_along, tail, words_after}
use Rattle.recovery.specs.Recovery.{recovery_of, recovery_from, replayed, is_bad_image, is_bad_segment}
use Rattle.recovery.proofs.Replay.{words_after-append}
use Rattle.recovery.proofs.Starting.{not_based}
use Rattle.salvage.specs.declared.log_part.LogPart.{LogPart}
use Rattle.salvage.specs.declared.log_part.LogPart.TheVariants as logs
use Rattle.salvage.specs.Parts.{kept_log, segment_of, begins_at, IsKept}
use Rattle.salvage.specs.Replay.{IsRefused, IsReplayed}
use Rattle.salvage.specs.Salvage.{Reaches, AreReplayed}
use Rattle.salvage.proofs.Forming.{closed_nothing, reads_before}

-- ---- the tail of two segments

along_alone : (t : ℕ) (p : Segment) → ticks_along t p ClosedSegment ≡ ticks_from t p
along_alone t p = append-nil (ticks_from t p)

-- the first segment's ticks don't depend on a second one that is closed
pub tail_alone : (t : ℕ) (p : Segment) → tail t p ClosedSegment ≡ ticks_from t p
tail_alone t p = search (rules, cond-true, along_alone, cond-false, not_based)

-- the tail goes along log.b first if log.a doesn't begin there
pub tail_second : (t : ℕ) (p q : Segment) → has_base t p ≡ false → tail t p q ≡ ticks_along t q p
tail_second t p q elsewhere = search (rules, cond-false, cond-true, not_based, add-zero)

-- it goes along log.a first if that begins there or is closed
pub tail_first : (t : ℕ) (p q : Segment) → (has_base t p ≡ true) ⊎ (p ≡ ClosedSegment) → tail t p q ≡ ticks_along t p q
tail_first t p q (inl h) = cond-true (has_base t p) (ticks_along t p q) (cond (has_base t q) (ticks_along t q p) []) h
tail_first t p q (inr e) = search (rules, add-zero, tail_second, along_alone)

-- ---- the newest image

-- what recovery gives on only the images, and on them with any segments
pub record OnNewest (a b : Image) (n : Recovery) : Type 0 where
  pub image : Newest
  pub tick_is : image.tick ≡ n.tick
  pub words_are : image.words ≡ n.words
  pub with_logs : (la lb : Segment) → is_bad_segment la ≡ false → is_bad_segment lb ≡ false → recovery_of a b la lb ≡ replayed image (tail image.tick la lb)

or_false : (x y : Bool) → x ≡ false → y ≡ false → (x || y) ≡ false
or_false true y h k = absurd cc
or_false false y h k = k

first_fails : (x : Bool) (rest : Result Recovery Refusal) (n : Recovery) → cond x (Err BadImage) rest ≡ Ok n → (x ≡ false) × (rest ≡ Ok n)
first_fails true rest n e = absurd cc
first_fails false rest n e = (refl, e)

abbrev from_ok : Recovery → Result Recovery Refusal → Recovery
from_ok n (Ok answer) = answer
from_ok n (Err refusal) = n

pub on_newest : (a b : Image) (n : Recovery) → recovery_of a b ClosedSegment ClosedSegment ≡ Ok n → OnNewest a b n
on_newest a b n e =
    let tests = first_fails (is_bad_image a || is_bad_image b) (recovery_from (newest a b) ClosedSegment ClosedSegment) n e in
    go (newest a b) refl tests.0 tests.1
  where
    go : (o : Option Newest) → newest a b ≡ o → (is_bad_image a || is_bad_image b) ≡ false → recovery_from (newest a b) ClosedSegment ClosedSegment ≡ Ok n → OnNewest a b n
    go None is formed e = (let no : Err NoImage ≡ Ok n = ap (λ o. recovery_from o ClosedSegment ClosedSegment) (sym is) ∙ e in absurd cc)
    go (Some image) is formed e =
        let same : record { tick = image.tick + 0; from = image.tick; slot = image.slot; words = image.words } ≡ n =
        ap (from_ok n) (ap (λ o. recovery_from o ClosedSegment ClosedSegment) (sym is) ∙ e) in
        record {
          image = image;
          tick_is = sym (add-zero image.tick) ∙ ap (λ (r : Recovery). r.tick) same;
          words_are = ap (λ (r : Recovery). r.words) same;
          with_logs = λ la lb fa fb.
              cond-false (is_bad_image a || is_bad_image b) (Err BadImage) (cond (is_bad_segment la || is_bad_segment lb) (Err BadLog) (recovery_from (newest a b) la lb)) formed
              ∙ cond-false (is_bad_segment la || is_bad_segment lb) (Err BadLog) (recovery_from (newest a b) la lb) (or_false (is_bad_segment la) (is_bad_segment lb) fa fb)
              ∙ ap (λ o. recovery_from o la lb) is;
        }

-- a segment that has no bytes is closed
pub nothing_closed : (s : Segment) → IsSegment [] s → s ≡ ClosedSegment
nothing_closed s reads = reads_once [] s ClosedSegment reads closed_nothing

-- the images on which recovery gave this answer for empty segments
pub newest_on : (ia ib : List ℕ) (n : Recovery) → Recovers ia ib [] [] (Ok n) → OnNewest (image_of ia) (image_of ib) n
newest_on ia ib n e = search (rules, on_newest, nothing_closed)

-- ---- what is taken of a segment

-- the reading of what is taken
pub formed_of : (part : LogPart) (list : List Tick) → is_bad_segment (segment_of part list) ≡ false
formed_of logs.Closed list = refl
formed_of part list = refl

pub begins_of : (t : ℕ) (part : LogPart) (list : List Tick) → begins_at t part ≡ has_base t (segment_of part list)
begins_of t logs.Closed list = refl
begins_of t part list = refl

-- what a segment has from a tick is accepted, if all lists that it may have there are
pub from_accepted : (t : ℕ) (words : List ℕ) (s : Segment) → ((list : List Tick) → s ≡ OpenSegment t list → IsOk (words_after words list)) → IsOk (words_after words (ticks_from t s))
from_accepted t words ClosedSegment h = refl
from_accepted t words s h = search (rules, eqb, cond-true, eqb-true, cond-false)

-- what is taken reads like this after a replay
pub record Taken (t : ℕ) (words bytes : List ℕ) (formed part : LogPart) : Type 0 where
  pub kept : IsKept bytes part
  pub accepted : IsOk (words_after words (ticks_from t (segment_of part kept.list)))
  pub begins : (u : ℕ) → has_base u (segment_of part kept.list) ≡ true → begins_at u formed ≡ true
  pub stands : begins_at t formed ≡ true → (has_base t (segment_of part kept.list) ≡ true) ⊎ (segment_of part kept.list ≡ ClosedSegment)

-- a segment that reads as the groups before a refused one
record Reads (t : ℕ) (words : List ℕ) (formed : LogPart) (s : Segment) : Type 0 where
  accepted : IsOk (words_after words (ticks_from t s))
  begins : (u : ℕ) → has_base u s ≡ true → begins_at u formed ≡ true
  stands : (has_base t s ≡ true) ⊎ (s ≡ ClosedSegment)

reads_closed : (t : ℕ) (words : List ℕ) (formed : LogPart) → Reads t words formed ClosedSegment
reads_closed t words formed = record { accepted = refl; begins = λ u h. absurd cc; stands = inr refl }

reads_groups : (t : ℕ) (words bytes : List ℕ) (formed part : LogPart) (k : IsKept bytes formed)
    (r : IsRefused t words (kept_log formed bytes) part) → Reads t words formed (OpenSegment t (joined r.refused.kept))
reads_groups t words bytes formed part k r =
    let whole : segment_of formed k.list ≡ OpenSegment t r.list = reads_once (kept_log formed bytes) (segment_of formed k.list) (OpenSegment t r.list) k.reads r.segment in
    record {
      accepted =
          from_accepted t words (OpenSegment t (joined r.refused.kept))
          (λ list is. subst (λ l. IsOk (words_after words l)) (let same : joined r.refused.kept ≡ list = one_list t (joined r.refused.kept) list is in same) r.refused.accepted);
      begins = λ u h. begins_of u formed k.list ∙ ap (has_base u) whole ∙ h;
      stands = inl (eq-eqb t t refl);
    }
  where
    one_list : (t : ℕ) (a b : List Tick) → OpenSegment t a ≡ OpenSegment t b → a ≡ b
    one_list t a b e = cc

dropped_closed : (part : LogPart) (list : List Tick) → part ≡ logs.Dropped → segment_of part list ≡ ClosedSegment
dropped_closed part list e = ap (λ p. segment_of p list) e

pub taken : (t : ℕ) (words bytes : List ℕ) (formed part : LogPart) → IsKept bytes formed → IsReplayed t words bytes formed part → Taken t words bytes formed part
taken t words bytes formed part k (inl stays) =
    let same : Taken t words bytes formed formed = record {
      kept = k;
      accepted = from_accepted t words (segment_of formed k.list) (λ list is. stays.1 list (subst (IsSegment (kept_log formed bytes)) is k.reads));
      begins = λ u h. begins_of u formed k.list ∙ h;
      stands = λ h. inl (sym (begins_of t formed k.list) ∙ h);
    } in
    subst (Taken t words bytes formed) (sym stays.0) same
taken t words bytes formed part k (inr r) =
    let before = reads_before t words bytes formed part k.fits r in
    let now = segment_of part before.is_kept.list in
    let reads : Reads t words formed now = elim before.list_is [
      | inl dropped ↦ subst (Reads t words formed) (sym (dropped_closed part before.is_kept.list dropped)) (reads_closed t words formed)
      | inr groups ↦ subst (Reads t words formed) (sym groups) (reads_groups t words bytes formed part k r)
    ] in
    record { kept = before.is_kept; accepted = reads.accepted; begins = reads.begins; stands = λ h. reads.stands }

-- ---- the answers of recovery

ok_words : (r : Result (List ℕ) Refusal) → IsOk r → (words : List ℕ) × (r ≡ Ok words)
ok_words (Ok words) ok = (words, refl)
ok_words (Err refusal) ok = absurd cc

-- recovery gives the world after an accepted tail
pub record Answers (a b : Image) (n : Recovery) (la lb : Segment) : Type 0 where
  pub answer : Recovery
  pub is : recovery_of a b la lb ≡ Ok answer
  pub tick_is : answer.tick ≡ n.tick + length (tail n.tick la lb)
  pub words_are : words_after n.words (tail n.tick la lb) ≡ Ok answer.words

pub answers : (a b : Image) (n : Recovery) (la lb : Segment) → OnNewest a b n → is_bad_segment la ≡ false
    → is_bad_segment lb ≡ false → IsOk (words_after n.words (tail n.tick la lb)) → Answers a b n la lb
answers a b n la lb on fa fb ok = search (rules, ok_words)

-- another answer for the same files
pub not_refused : (ia ib la lb : List ℕ) (n : Recovery) (sa sb : Segment) → IsSegment la sa → IsSegment lb sb
    → Answers (image_of ia) (image_of ib) n sa sb → (refusal : Refusal) → Recovers ia ib la lb (Err refusal) → ⊥
not_refused ia ib la lb n sa sb ra rb x refusal e = search (rules, reads_once)

pub same_answer : (ia ib la lb : List ℕ) (n : Recovery) (sa sb : Segment) → IsSegment la sa → IsSegment lb sb
    → (x : Answers (image_of ia) (image_of ib) n sa sb) → (found : Recovery) → Recovers ia ib la lb (Ok found) → x.answer ≡ found
same_answer ia ib la lb n sa sb ra rb x found e = search (rules, reads_once)

-- ---- only the first segment

module _ (ia ib bytes : List ℕ) (n : Recovery) (formed part : LogPart) (e : Recovers ia ib [] [] (Ok n)) (k : IsKept bytes formed) (replay : IsReplayed n.tick n.words bytes formed part) where
  abbrev log : Segment
  log = segment_of part (taken n.tick n.words bytes formed part k replay).kept.list

  alone : Answers (image_of ia) (image_of ib) n log ClosedSegment
  alone = search (rules, taken, answers, newest_on, formed_of, tail_alone)

  pub first_not_refused : (refusal : Refusal) → Recovers ia ib (kept_log part bytes) [] (Err refusal) → ⊥
  first_not_refused refusal f = not_refused ia ib (kept_log part bytes) [] n log ClosedSegment (taken n.tick n.words bytes formed part k replay).kept.reads closed_nothing alone refusal f

  pub first_reaches : (reached : Recovery) → Recovers ia ib (kept_log part bytes) [] (Ok reached) → Reaches n.tick n.words bytes part reached.tick reached.words
  first_reaches reached f =
      let t = taken n.tick n.words bytes formed part k replay in
      let same : alone.answer ≡ reached = same_answer ia ib (kept_log part bytes) [] n log ClosedSegment t.kept.reads closed_nothing alone reached f in
      record {
        log = log;
        reads = t.kept.reads;
        reached_is = ap (λ (r : Recovery). r.tick) (sym same) ∙ alone.tick_is ∙ ap (λ (l : List Tick). n.tick + length l) (tail_alone n.tick log);
        replays = ap (words_after n.words) (sym (tail_alone n.tick log)) ∙ alone.words_are ∙ ap (λ (r : Recovery). Ok r.words) same;
      }

-- ---- both segments

-- the ticks along two segments are accepted if those of each are
along_accepted : (t : ℕ) (words : List ℕ) (s1 s2 : Segment) (reached : ℕ) (reached_words : List ℕ) → reached ≡ t + length (ticks_from t s1) → words_after words (ticks_from t s1) ≡ Ok reached_words
    → IsOk (words_after reached_words (ticks_from reached s2)) → IsOk (words_after words (ticks_along t s1 s2))
along_accepted t words s1 s2 reached reached_words at first second = search (rules, words_after-append)

module _ (n : Recovery) (first second : List ℕ) (formed_first formed_second part_first part_second : LogPart) (k1 : IsKept first formed_first) (k2 : IsKept second formed_second)
    (r : AreReplayed n.tick n.words first second formed_first formed_second part_first part_second) where
  pub first_taken : Taken n.tick n.words first formed_first part_first
  first_taken = taken n.tick n.words first formed_first part_first k1 r.first_is

  pub second_taken : Taken r.reached r.reached_words second formed_second part_second
  second_taken = taken r.reached r.reached_words second formed_second part_second k2 r.second_is

  abbrev one : Segment
  one = segment_of part_first first_taken.kept.list

  abbrev two : Segment
  two = segment_of part_second second_taken.kept.list

  pub both_accepted : IsOk (words_after n.words (ticks_along n.tick one two))
  both_accepted = search (rules, reads_once, first_taken, along_accepted, second_taken)

  -- log.a is the first one
  pub answers_first : (ia ib : List ℕ) → Recovers ia ib [] [] (Ok n) → begins_at n.tick formed_first ≡ true → Answers (image_of ia) (image_of ib) n one two
  answers_first ia ib e begins =
      answers (image_of ia) (image_of ib) n one two (newest_on ia ib n e) (formed_of part_first first_taken.kept.list) (formed_of part_second second_taken.kept.list)
      (subst (λ l. IsOk (words_after n.words l)) (sym (tail_first n.tick one two (first_taken.stands begins))) both_accepted)

  -- log.b is the first one
  pub answers_second : (ia ib : List ℕ) → Recovers ia ib [] [] (Ok n) → begins_at n.tick formed_second ≡ false → Answers (image_of ia) (image_of ib) n two one
  answers_second ia ib e begins =
      let not_there : has_base n.tick two ≡ false = go (has_base n.tick two) refl in
      answers (image_of ia) (image_of ib) n two one (newest_on ia ib n e) (formed_of part_second second_taken.kept.list) (formed_of part_first first_taken.kept.list)
      (subst (λ l. IsOk (words_after n.words l)) (sym (tail_second n.tick two one not_there)) both_accepted)
    where
      go : (b : Bool) → has_base n.tick two ≡ b → has_base n.tick two ≡ false
      go true h = (let no : true ≡ false = sym (second_taken.begins n.tick h) ∙ begins in absurd cc)
      go false h = h

-- what a call that gives up returns
pub if_err : {T : Type 0} (r : Result T Refusal) (refusal : Refusal) (P : Refusal → Type 0) → IsErrAnd r (λ e. e ≡ refusal) → P refusal → IfErr r P
if_err (Ok value) refusal P h p = tt
if_err (Err other) refusal P h p = subst P (sym h) p
