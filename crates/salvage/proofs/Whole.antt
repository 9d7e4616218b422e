-- What is taken of files, and of files that recovery accepts.
use Rattle.std.proofs.Common.{rules}
use Rattle.std.proofs.Common.{◌≡◌, ℕ, ◌+◌, ◌⊎◌, inl, inr, true, false, List, [], ◌++◌, length, Result, Ok, Err, refl, sym, ap, subst, ◌∙◌, eq-eqb}
use Rattle.std.specs.Prelude.{IsOk, IsErr}
use Rattle.std.proofs.lemmas.Bool.{cond-true}
use Rattle.world_actions.specs.declared.refusal.Refusal.{Refusal}
use Rattle.world_ticks.specs.After.{and_then}
use Rattle.image_files.specs.Image.{Image, Closed, Bad, image_of}
use Rattle.action_log.specs.Segment.{Tick, joined, Segment, OpenSegment, IsSegment}
use Rattle.action_log.proofs.ReadingLemmas.{reads_once}
use Rattle.action_log.proofs.ReplayLemmas.{refused_at}
use Rattle.recovery.specs.Recovery.{Recovery, Recovers, has_base, ticks_from, ticks_along, tail, words_after, recovery_of, is_bad_image, is_bad_segment}
use Rattle.recovery.proofs.Replay.{words_after-append}
use Rattle.salvage.specs.declared.image_part.ImagePart.{ImagePart}
use Rattle.salvage.specs.declared.image_part.ImagePart.TheVariants as images
use Rattle.salvage.specs.declared.log_part.LogPart.{LogPart}
use Rattle.salvage.specs.declared.log_part.LogPart.TheVariants as logs
use Rattle.salvage.specs.Parts.{kept_image, IsImagePart, kept_log, segment_of, begins_at, IsKept, IsFormed}
use Rattle.salvage.specs.Replay.{IsRefused, IsReplayed}
use Rattle.salvage.specs.Salvage.{AreReplayed, AreReplayedInOrder, IsImageTaken, IsLogTaken, IsAllTaken}
use Rattle.salvage.proofs.Along.{OnNewest, newest_on, tail_first, tail_second, begins_of, Answers, answers_first, answers_second, first_taken, second_taken}

-- ---- images

closed_image : image_of [] ≡ Closed
unfolding image_of
closed_image = refl

apart : (image : Image) → image ≡ Closed → image ≡ Bad → ⊥
apart image h k = (let e : Closed ≡ Bad = sym h ∙ k in absurd cc)

-- what is taken of an image isn't bad
pub kept_good : (bytes : List ℕ) (part : ImagePart) → IsImagePart bytes part → image_of (kept_image part bytes) ≡ Bad → ⊥
kept_good bytes images.Closed is bad = apart (image_of bytes) is bad
kept_good bytes part is bad = search (rules, apart, closed_image)

-- an image that isn't bad is taken as it is
good_taken : (bytes : List ℕ) (part : ImagePart) → IsImagePart bytes part → is_bad_image (image_of bytes) ≡ false → IsImageTaken part × (kept_image part bytes ≡ bytes)
good_taken bytes images.Dropped is good = (let e : true ≡ false = sym (ap is_bad_image is) ∙ good in absurd cc)
good_taken bytes part is good = (tt, refl)

-- ---- what is taken can be recovered

-- the readings of what is taken of the log, and the answer of recovery for them
pub record TakenAnswers (image_a image_b log_a log_b : List ℕ) (part_a part_b : LogPart) : Type 0 where
  pub newest : Recovery
  pub kept_a : IsKept log_a part_a
  pub kept_b : IsKept log_b part_b
  pub answers : Answers (image_of image_a) (image_of image_b) newest (segment_of part_a kept_a.list) (segment_of part_b kept_b.list)

pub taken_answers : (image_a image_b log_a log_b : List ℕ) (formed_a formed_b part_a part_b : LogPart) → IsKept log_a formed_a → IsKept log_b formed_b
    → AreReplayedInOrder image_a image_b log_a log_b formed_a formed_b part_a part_b → TakenAnswers image_a image_b log_a log_b part_a part_b
taken_answers image_a image_b log_a log_b formed_a formed_b part_a part_b ka kb o = go o.replayed
  where
    go : ((begins_at o.newest.tick formed_a ≡ true) × AreReplayed o.newest.tick o.newest.words log_a log_b formed_a formed_b part_a part_b)
        ⊎ ((begins_at o.newest.tick formed_a ≡ false) × AreReplayed o.newest.tick o.newest.words log_b log_a formed_b formed_a part_b part_a)
        → TakenAnswers image_a image_b log_a log_b part_a part_b
    go (inl (begins, r)) =
        let first = first_taken o.newest log_a log_b formed_a formed_b part_a part_b ka kb r in
        let second = second_taken o.newest log_a log_b formed_a formed_b part_a part_b ka kb r in
        let answers = answers_first o.newest log_a log_b formed_a formed_b part_a part_b ka kb r image_a image_b o.newest_is begins in
        record { newest = o.newest; kept_a = first.kept; kept_b = second.kept; answers = answers }
    go (inr (begins, r)) =
        let first = first_taken o.newest log_b log_a formed_b formed_a part_b part_a kb ka r in
        let second = second_taken o.newest log_b log_a formed_b formed_a part_b part_a kb ka r in
        let answers = answers_second o.newest log_b log_a formed_b formed_a part_b part_a kb ka r image_a image_b o.newest_is begins in
        record { newest = o.newest; kept_a = second.kept; kept_b = first.kept; answers = answers }

-- ---- files that recovery accepts

from_here : (t : ℕ) (list : List Tick) → ticks_from t (OpenSegment t list) ≡ list
from_here t list = cond-true _ list [] (eq-eqb t t refl)

-- the front of accepted ticks is accepted
front_accepted : (world : List ℕ) (front more : List Tick) → IsOk (words_after world (front ++ more)) → IsOk (words_after world front)
front_accepted world front more ok = search (rules, words_after-append)

-- no action of an accepted segment is refused
none_refused : (t : ℕ) (words bytes : List ℕ) (part : LogPart) (s : Segment) → IsSegment bytes s → IsOk (words_after words (ticks_from t s)) → IsRefused t words bytes part → ⊥
none_refused t words bytes part s reads ok r =
    let is : s ≡ OpenSegment t r.list = reads_once bytes s (OpenSegment t r.list) reads r.segment in
    let all : words_after words (joined r.segment.groups) ≡ words_after words r.list = ap (words_after words) (sym r.segment.of_groups) in
    let good : IsOk (words_after words (joined r.segment.groups)) =
    subst (λ o. IsOk o) (ap (λ s. words_after words (ticks_from t s)) is ∙ ap (words_after words) (from_here t r.list) ∙ sym all) ok in
    clash (words_after words (joined r.segment.groups)) good (refused_at r.segment.groups words r.at r.ticks r.refused)
  where
    clash : (x : Result (List ℕ) Refusal) → IsOk x → IsErr x → ⊥
    clash (Ok w) ok err = absurd cc
    clash (Err e) ok err = absurd cc

stays : (t : ℕ) (words bytes : List ℕ) (formed part : LogPart) (s : Segment) → IsSegment (kept_log formed bytes) s
    → IsOk (words_after words (ticks_from t s)) → IsReplayed t words bytes formed part → part ≡ formed
stays t words bytes formed part s reads ok (inl same) = same.0
stays t words bytes formed part s reads ok (inr r) = absurd (none_refused t words (kept_log formed bytes) part s reads ok r)

-- both segments stay if the ticks along them are accepted
both_stay : (n : Recovery) (first second : List ℕ) (f1 f2 p1 p2 : LogPart) (s1 s2 : Segment) → IsSegment (kept_log f1 first) s1 → IsSegment (kept_log f2 second) s2
    → AreReplayed n.tick n.words first second f1 f2 p1 p2 → IsOk (words_after n.words (ticks_along n.tick s1 s2)) → (p1 ≡ f1) × (p2 ≡ f2)
both_stay n first second f1 f2 p1 p2 s1 s2 reads1 reads2 r ok =
    let x = ticks_from n.tick s1 in
    let y = ticks_from (n.tick + length x) s2 in
    let one : p1 ≡ f1 = stays n.tick n.words first f1 p1 s1 reads1 (front_accepted n.words x y ok) r.first_is in
    let log : r.reaches.log ≡ s1 = reads_once (kept_log f1 first) r.reaches.log s1 (subst (λ p. IsSegment (kept_log p first) r.reaches.log) one r.reaches.reads) reads1 in
    let words : words_after n.words x ≡ Ok r.reached_words = subst (λ s. words_after n.words (ticks_from n.tick s) ≡ Ok r.reached_words) log r.reaches.replays in
    let at : r.reached ≡ n.tick + length x = subst (λ s. r.reached ≡ n.tick + length (ticks_from n.tick s)) log r.reaches.reached_is in
    let rest : IsOk (words_after r.reached_words y) = subst (λ o. IsOk (and_then o (λ next. words_after next y))) words (subst (λ o. IsOk o) (words_after-append n.words x y) ok) in
    (one, stays r.reached r.reached_words second f2 p2 s2 reads2 (subst (λ m. IsOk (words_after r.reached_words (ticks_from m s2))) (sym at) rest) r.second_is)

-- a segment that isn't malformed is taken as it is
formed_taken : (bytes : List ℕ) (part : LogPart) (s : Segment) → IsFormed bytes part → IsSegment bytes s → is_bad_segment s ≡ false → IsLogTaken part × (kept_log part bytes ≡ bytes)
formed_taken bytes logs.Closed s is reads good = (tt, refl)
formed_taken bytes part s is reads good = search (rules, reads_once)

-- the tests of recovery before its answer
record Passed (a b : Image) (la lb : Segment) : Type 0 where
  good_a : is_bad_image a ≡ false
  good_b : is_bad_image b ≡ false
  formed_a : is_bad_segment la ≡ false
  formed_b : is_bad_segment lb ≡ false

passed : (a b : Image) (la lb : Segment) (r : Recovery) → recovery_of a b la lb ≡ Ok r → Passed a b la lb
passed a b la lb r e = search rules

-- the tail of an answer is accepted
tail_accepted : (a b : Image) (n : Recovery) (la lb : Segment) (r : Recovery) → OnNewest a b n → is_bad_segment la ≡ false
    → is_bad_segment lb ≡ false → recovery_of a b la lb ≡ Ok r → IsOk (words_after n.words (tail n.tick la lb))
tail_accepted a b n la lb r on fa fb e = search rules

-- all of the files is taken if recovery accepts them, and the answer is the same
pub record TakenWhole (image_a image_b log_a log_b : List ℕ) (image_part_a image_part_b : ImagePart) (part_a part_b : LogPart) : Type 0 where
  pub all : IsAllTaken image_part_a image_part_b part_a part_b
  pub image_a_is : kept_image image_part_a image_a ≡ image_a
  pub image_b_is : kept_image image_part_b image_b ≡ image_b
  pub log_a_is : kept_log part_a log_a ≡ log_a
  pub log_b_is : kept_log part_b log_b ≡ log_b

pub taken_whole : (image_a image_b log_a log_b : List ℕ) (image_part_a image_part_b : ImagePart)
    (formed_a formed_b part_a part_b : LogPart) → IsImagePart image_a image_part_a → IsImagePart image_b image_part_b
    → IsFormed log_a formed_a → IsFormed log_b formed_b → IsKept log_a formed_a
    → AreReplayedInOrder (kept_image image_part_a image_a) (kept_image image_part_b image_b) log_a log_b formed_a formed_b part_a part_b → (r : Recovery) → Recovers image_a image_b log_a log_b (Ok r)
    → TakenWhole image_a image_b log_a log_b image_part_a image_part_b part_a part_b
taken_whole image_a image_b log_a log_b image_part_a image_part_b formed_a formed_b part_a part_b ia ib fa fb ka o r e =
    let p = passed (image_of image_a) (image_of image_b) e.a e.b r e.holds in
    let ta = good_taken image_a image_part_a ia p.good_a in
    let tb = good_taken image_b image_part_b ib p.good_b in
    let la = formed_taken log_a formed_a e.a fa e.reads_a p.formed_a in
    let lb = formed_taken log_b formed_b e.b fb e.reads_b p.formed_b in
    let on : OnNewest (image_of image_a) (image_of image_b) o.newest =
    newest_on image_a image_b o.newest (subst (λ i. Recovers i image_b [] [] (Ok o.newest)) ta.1 (subst (λ i. Recovers (kept_image image_part_a image_a) i [] [] (Ok o.newest)) tb.1 o.newest_is)) in
    let ok = tail_accepted (image_of image_a) (image_of image_b) o.newest e.a e.b r on p.formed_a p.formed_b e.holds in
    let reads_a : IsSegment (kept_log formed_a log_a) e.a = subst (λ l. IsSegment l e.a) (sym la.1) e.reads_a in
    let reads_b : IsSegment (kept_log formed_b log_b) e.b = subst (λ l. IsSegment l e.b) (sym lb.1) e.reads_b in
    let same : (part_a ≡ formed_a) × (part_b ≡ formed_b) = go ok reads_a reads_b o.replayed in
    record {
      all = (ta.0, tb.0, subst IsLogTaken (sym same.0) la.0, subst IsLogTaken (sym same.1) lb.0);
      image_a_is = ta.1;
      image_b_is = tb.1;
      log_a_is = subst (λ q. kept_log q log_a ≡ log_a) (sym same.0) la.1;
      log_b_is = subst (λ q. kept_log q log_b ≡ log_b) (sym same.1) lb.1;
    }
  where
    -- a formed part begins where its reading does
    begins : (t : ℕ) (s : Segment) → IsSegment (kept_log formed_a log_a) s → begins_at t formed_a ≡ has_base t s
    begins t s reads = begins_of t formed_a ka.list ∙ ap (has_base t) (reads_once (kept_log formed_a log_a) (segment_of formed_a ka.list) s ka.reads reads)

    go : IsOk (words_after o.newest.words (tail o.newest.tick e.a e.b)) → IsSegment (kept_log formed_a log_a) e.a → IsSegment (kept_log formed_b log_b) e.b
        → ((begins_at o.newest.tick formed_a ≡ true) × AreReplayed o.newest.tick o.newest.words log_a log_b formed_a formed_b part_a part_b)
        ⊎ ((begins_at o.newest.tick formed_a ≡ false) × AreReplayed o.newest.tick o.newest.words log_b log_a formed_b formed_a part_b part_a)
        → (part_a ≡ formed_a) × (part_b ≡ formed_b)
    go ok reads_a reads_b (inl (here, x)) =
        let based : has_base o.newest.tick e.a ≡ true = sym (begins o.newest.tick e.a reads_a) ∙ here in
        both_stay o.newest log_a log_b formed_a formed_b part_a part_b e.a e.b reads_a reads_b x (subst (λ l. IsOk (words_after o.newest.words l)) (tail_first o.newest.tick e.a e.b (inl based)) ok)
    go ok reads_a reads_b (inr (here, x)) =
        let based : has_base o.newest.tick e.a ≡ false = sym (begins o.newest.tick e.a reads_a) ∙ here in
        let both = both_stay o.newest log_b log_a formed_b formed_a part_b part_a e.b e.a reads_b reads_a x
        (subst (λ l. IsOk (words_after o.newest.words l)) (tail_second o.newest.tick e.a e.b based) ok) in
        (both.1, both.0)

-- files have one answer
abbrev from_ok : Recovery → Result Recovery Refusal → Recovery
from_ok n (Ok answer) = answer
from_ok n (Err refusal) = n

pub one_answer : (image_a image_b log_a log_b : List ℕ) (x y : Recovery) → Recovers image_a image_b log_a log_b (Ok x) → Recovers image_a image_b log_a log_b (Ok y) → x ≡ y
one_answer image_a image_b log_a log_b x y e f = search (rules, reads_once)

-- the same for other names of the bytes
pub recovers_on : {a b c d a2 b2 c2 d2 : List ℕ} (x : Result Recovery Refusal) → a ≡ a2 → b ≡ b2 → c ≡ c2 → d ≡ d2 → Recovers a b c d x → Recovers a2 b2 c2 d2 x
recovers_on {a} {b} {c} {d} {a2} {b2} {c2} {d2} x ea eb ec ed e = search rules
