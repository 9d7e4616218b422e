-- The law of recovery: the claims of the two keepers on their files make the four files sound.
use Rattle.std.proofs.Common.{rules}
use Rattle.std.proofs.Common.{◌≡◌, ℕ, ◌+◌, ◌<◌, ◌≤◌, ◌⊎◌, inl, inr, Bool, true, false, cond, ltb, ◌||◌, List, [], ◌∷◌, ◌++◌}
use Rattle.std.proofs.Common.{length, take, drop, Option, Some, None, Ok, Err, refl, sym, ap, subst, ◌∙◌, arith, eq-eqb}
use Rattle.std.specs.Prelude.{IfSome}
use Rattle.std.proofs.lemmas.Bool.{eqb-true, cond-true, cond-false, le-ltb, lt-ltb, cases_lt}
use Rattle.std.proofs.lemmas.List.{append_assoc, length-append, length-take, length-drop}
use Rattle.world_actions.specs.declared.refusal.Refusal.TheVariants.{BadImage, BadLog}
use Rattle.file_format.specs.declared.slot.Slot.{Slot}
use Rattle.file_format.specs.declared.slot.Slot.TheVariants.{A, B}
use Rattle.world_actions.specs.declared.action.Action.{Action}
use Rattle.world_ticks.specs.After.{after_ticks}
use Rattle.action_log.specs.Segment.{IsSegment, Segment, ClosedSegment, MalformedSegment, OpenSegment}
use Rattle.image_files.specs.Image.{Image, Closed, Bad, Open, image_of}
use Rattle.recovery.specs.Recovery.{BothRead, Newest, newest, has_base, recovery_from, recovery_with, replayed, is_bad_image, is_bad_segment}
use Rattle.recovery.specs.Sound.{IsWorldAt, HoldsWorld, BeginsUpTo, IsSoundReading, IsSound}
use Rattle.file_format.specs.Slot.{in_slot, beside_slot}
use Rattle.image_files.specs.Images.{Round, Images, IsTarget, ImagesAre}
use Rattle.action_log.specs.Logs.{Logs, IsCurrent, IsOther, LogsAre}
use Rattle.recovery.specs.Follow.{FollowsFrom, IsRoundOf, ImagesFollow, Reaches, LeadsTo, LogsFollow, round_tick, base_in, coming, RiseFrom, BeginFrom, FollowMarks}
use Rattle.recovery.proofs.Replay.{world_on, follows_on, follows_front}
use Rattle.recovery.proofs.Tails.{IsBehind, closed_behind, earlier_behind, next_behind, tail_here, tail_past, tail_before, IsTail, other_order}

-- ---- the log

-- if a switch is in work, no group is, and the current segment leads to the switch
abbrev pub IsSwitchOf : (newest : ℕ) → Logs → Option ℕ → Type 0
IsSwitchOf newest logs switch = IfSome switch (λ tick. (logs.base < tick) × (logs.pending ≡ []) × Reaches (logs.base + length logs.kept) tick newest)

-- From an image of this tick the log leads on. The current segment begins there, or the log is after it, or the other
-- segment begins there and no switch has touched it.
abbrev LeadsOn : List (List Action) → Logs → ℕ → Type 0
LeadsOn ticks logs tick =
    (tick ≡ logs.base)
    ⊎ (((logs.base < tick) × (logs.base + length (logs.kept ++ logs.pending) ≤ tick))
    ⊎ ((logs.switch ≡ None) × (has_base tick logs.before ≡ true)))

before_behind : (ticks : List (List Action)) (newest base : ℕ) (before : Segment) → LeadsTo ticks newest base before → IsBehind base before
before_behind ticks newest base b h = search (rules, closed_behind, earlier_behind)

other_behind : (ticks : List (List Action)) (newest : ℕ) (logs : Logs) (switch : Option ℕ) (now : Segment)
    → LeadsTo ticks newest logs.base logs.before → IsSwitchOf newest logs switch → IsOther logs.before switch now → IsBehind logs.base now
other_behind ticks newest logs b now leads at e = search (rules, before_behind, closed_behind, next_behind)

-- the other segment begins no later than a tick that the current segment's acknowledged ticks and the newest image reach
before_begins : (ticks : List (List Action)) (newest base n : ℕ) (before : Segment) → LeadsTo ticks newest base before → base ≤ n → BeginsUpTo n before
before_begins ticks newest base n b h le = search rules

reached_begin : (end tick newest n : ℕ) → Reaches end tick newest → end ≤ n → newest ≤ n → tick ≤ n
reached_begin end tick newest n b le from = search rules

other_begins : (ticks : List (List Action)) (newest n : ℕ) (logs : Logs) (switch : Option ℕ) (now : Segment)
    → LeadsTo ticks newest logs.base logs.before → IsSwitchOf newest logs switch → IsOther logs.before switch now
    → logs.base + length logs.kept ≤ n → newest ≤ n → BeginsUpTo n now
other_begins ticks newest n logs b now leads at e le from = search (rules, before_begins, reached_begin)

-- up to this tick, or to the newest image's, all acknowledged ones are there
abbrev pub Reached : (acknowledged end newest : ℕ) → Type 0
Reached acknowledged end newest = (acknowledged ≤ end) ⊎ (acknowledged ≤ newest)

reached_at : (acknowledged end newest t more : ℕ) → Reached acknowledged end newest → newest ≤ t → end ≤ t + more → acknowledged ≤ t + more
reached_at acknowledged end newest t more b from le = search rules

pub reached_more : (acknowledged end more newest : ℕ) → Reached acknowledged end newest → end ≤ more → Reached acknowledged more newest
reached_more acknowledged end more newest b le = search rules

pub reached_fewer : (acknowledged fewer end newest : ℕ) → fewer ≤ acknowledged → Reached acknowledged end newest → Reached fewer end newest
reached_fewer acknowledged fewer end newest le b = search rules

pub reached_newer : (acknowledged end newest newer : ℕ) → newest ≤ newer → Reached acknowledged end newest → Reached acknowledged end newer
reached_newer acknowledged end newest newer le b = search rules

-- the ticks of the current segment
record Has (ticks : List (List Action)) (acknowledged newest : ℕ) (logs : Logs) (now : Segment) : Type 0 where
  here : List (List Action)
  is : now ≡ OpenSegment logs.base here
  follows : FollowsFrom ticks logs.base here
  reaches : Reached acknowledged (logs.base + length here) newest
  keeps : length logs.kept ≤ length here

current_has : (ticks : List (List Action)) (acknowledged newest : ℕ) (logs : Logs) (now : Segment)
    → LogsFollow ticks acknowledged newest logs → IsCurrent logs now → Has ticks acknowledged newest logs now
current_has ticks acknowledged newest logs now f (inl e) = record {
  here = logs.kept;
  is = e;
  follows = follows_front ticks logs.base logs.kept logs.pending f.taken;
  reaches = f.acknowledges;
  keeps = omega arith;
}
current_has ticks acknowledged newest logs now f (inr e) =
    let more : logs.base + length logs.kept ≤ logs.base + length (logs.kept ++ logs.pending) = omega (arith, length-append logs.kept logs.pending) in
    record {
      here = logs.kept ++ logs.pending;
      is = e;
      follows = f.taken;
      reaches = reached_more acknowledged (logs.base + length logs.kept) (logs.base + length (logs.kept ++ logs.pending)) newest f.acknowledges more;
      keeps = omega (arith, length-append logs.kept logs.pending);
    }

-- to a base after the newest image's tick the segment before leads with no tick between
meets : (end base newest : ℕ) → Reaches end base newest → newest < base → end ≡ base
meets end base newest b below = search rules

-- from the tick of the segment before
from_before : (ticks : List (List Action)) (acknowledged newest t base : ℕ) (here : List (List Action)) (before : Segment)
    → FollowsFrom ticks base here → Reached acknowledged (base + length here) newest → newest ≤ t
    → LeadsTo ticks newest base before → has_base t before ≡ true → IsTail ticks acknowledged t (OpenSegment base here) before
from_before ticks acknowledged newest t base here ClosedSegment f k from leads at = absurd cc
from_before ticks acknowledged newest t base here MalformedSegment f k from leads at = absurd leads
from_before ticks acknowledged newest t base here (OpenSegment earlier first) f k from leads at =
    let same : earlier ≡ t = eqb-true earlier t at in
    let meet : earlier + length first ≡ base = meets (earlier + length first) base newest leads.2 (omega (arith, leads.0)) in
    let fits : earlier + (length first + length here) ≤ length ticks = omega (arith, meet, f.ended) in
    let more : acknowledged ≤ earlier + (length first + length here) = reached_at acknowledged (base + length here) newest earlier (length first + length here) k (omega arith) (omega arith) in
    let tail : IsTail ticks acknowledged earlier (OpenSegment base here) (OpenSegment earlier first) = record {
      more = length first + length here;
      is = tail_before earlier base first here leads.0 meet ∙ follows_on ticks earlier base first here meet leads.1 f;
      ended = fits;
      reaches = more;
      a_begins = omega (arith, meet);
      b_begins = omega arith;
    } in
    subst (λ n. IsTail ticks acknowledged n (OpenSegment base here) (OpenSegment earlier first)) same tail

untouched : (before : Segment) (switch : Option ℕ) (now : Segment) → switch ≡ None → IsOther before switch now → now ≡ before
untouched before None now none e = e
untouched before (Some t) now none e = absurd (let h = none in cc)

log_tail : (ticks : List (List Action)) (acknowledged newest t : ℕ) (logs : Logs) (here : List (List Action)) (other : Segment)
    → LogsFollow ticks acknowledged newest logs → FollowsFrom ticks logs.base here
    → Reached acknowledged (logs.base + length here) newest → length logs.kept ≤ length here
    → IsOther logs.before logs.switch other → IsBehind logs.base other → newest ≤ t → t ≤ length ticks → LeadsOn ticks logs t → IsTail ticks acknowledged t (OpenSegment logs.base here) other
log_tail ticks acknowledged newest t logs here other f follows reaches keeps is behind from ended (inl e) =
    let tail : IsTail ticks acknowledged logs.base (OpenSegment logs.base here) other = record {
      more = length here;
      is = tail_here logs.base here other behind ∙ follows.are;
      ended = follows.ended;
      reaches = reached_at acknowledged (logs.base + length here) newest logs.base (length here) reaches (omega arith) (omega arith);
      a_begins = omega arith;
      b_begins = other_begins ticks newest (logs.base + length here) logs logs.switch other f.before f.switch is (omega (arith, keeps)) (omega (arith, from, e));
    } in
    subst (λ n. IsTail ticks acknowledged n (OpenSegment logs.base here) other) (sym e) tail
log_tail ticks acknowledged newest t logs here other f follows reaches keeps is behind from ended (inr (inl past)) = record {
  more = 0;
  is = tail_past logs.base t here other past.0 behind;
  ended = omega arith;
  reaches = reached_at acknowledged (logs.base + length logs.kept) newest t 0 f.acknowledges from (omega (arith, past.1, length-append logs.kept logs.pending));
  a_begins = omega (arith, past.0);
  b_begins = other_begins ticks newest (t + 0) logs logs.switch other f.before f.switch is (omega (arith, past.1, length-append logs.kept logs.pending)) (omega (arith, from));
}
log_tail ticks acknowledged newest t logs here other f follows reaches keeps is behind from ended (inr (inr at)) =
    let same : other ≡ logs.before = untouched logs.before logs.switch other at.0 is in
    subst (λ s. IsTail ticks acknowledged t (OpenSegment logs.base here) s) (sym same) (from_before ticks acknowledged newest t logs.base here logs.before follows reaches from f.before at.1)

-- two segments that read so, in either order
record LogPair (ticks : List (List Action)) (acknowledged t : ℕ) (current other : Segment) : Type 0 where
  first : IsTail ticks acknowledged t current other
  second : IsTail ticks acknowledged t other current
  current_formed : is_bad_segment current ≡ false
  other_formed : is_bad_segment other ≡ false

log_pair : (ticks : List (List Action)) (acknowledged newest t : ℕ) (logs : Logs) (current other : Segment)
    → LogsFollow ticks acknowledged newest logs → IsCurrent logs current → IsOther logs.before logs.switch other → newest ≤ t
    → t ≤ length ticks → LeadsOn ticks logs t → LogPair ticks acknowledged t current other
log_pair ticks acknowledged newest t logs current other f is_current is_other from ended leads =
    let has = current_has ticks acknowledged newest logs current f is_current in
    let behind = other_behind ticks newest logs logs.switch other f.before f.switch is_other in
    let first = log_tail ticks acknowledged newest t logs has.here other f has.follows has.reaches has.keeps is_other behind from ended leads in
    let pair : LogPair ticks acknowledged t (OpenSegment logs.base has.here) other = record {
      first = first;
      second = other_order ticks acknowledged t logs.base has.here other behind first;
      current_formed = refl;
      other_formed = behind.formed;
    } in
    subst (λ s. LogPair ticks acknowledged t s other) (sym has.is) pair

-- ---- the images

pub record Picked (first : List ℕ) (ticks : List (List Action)) (t : ℕ) (image_a image_b : Image) : Type 0 where
  pub image : Newest
  pub is : newest image_a image_b ≡ Some image
  pub tick_is : image.tick ≡ t
  pub world : IsWorldAt first ticks image.tick image.words
  pub a_holds : HoldsWorld first ticks image.tick image_a
  pub b_holds : HoldsWorld first ticks image.tick image_b

kept_left : (first : List ℕ) (ticks : List (List Action)) (tick : ℕ) (words : List ℕ) (now : Image)
    → IsWorldAt first ticks tick words → HoldsWorld first ticks tick now → Picked first ticks tick (Open tick words) now
kept_left first ticks tick words Closed at h = record { image = record { slot = A; tick = tick; words = words }; is = refl; tick_is = refl; world = at; a_holds = (omega arith, at); b_holds = tt }
kept_left first ticks tick words Bad at h = absurd h
kept_left first ticks tick words (Open s v) at h = record {
  image = record { slot = A; tick = tick; words = words };
  is = cond-false (ltb tick s) (Some (record { slot = B; tick = s; words = v })) (Some (record { slot = A; tick = tick; words = words })) (le-ltb tick s h.0);
  tick_is = refl;
  world = at;
  a_holds = (omega arith, at);
  b_holds = h;
}

kept_right : (first : List ℕ) (ticks : List (List Action)) (tick : ℕ) (words : List ℕ) (now : Image)
    → IsWorldAt first ticks tick words → HoldsWorld first ticks tick now → Picked first ticks tick now (Open tick words)
kept_right first ticks tick words Closed at h = record { image = record { slot = B; tick = tick; words = words }; is = refl; tick_is = refl; world = at; a_holds = tt; b_holds = (omega arith, at) }
kept_right first ticks tick words Bad at h = absurd h
kept_right first ticks tick words (Open s v) at h =
    elim (cases_lt s tick) [
      | inl lt ↦ record {
        image = record { slot = B; tick = tick; words = words };
        is = cond-true (ltb s tick) (Some (record { slot = B; tick = tick; words = words })) (Some (record { slot = A; tick = s; words = v })) (lt-ltb s tick lt);
        tick_is = refl;
        world = at;
        a_holds = h;
        b_holds = (omega arith, at);
      }
      | inr le ↦ record {
        image = record { slot = A; tick = s; words = v };
        is = cond-false (ltb s tick) (Some (record { slot = B; tick = tick; words = words })) (Some (record { slot = A; tick = s; words = v })) (le-ltb s tick le);
        tick_is = (let same : s ≡ tick = omega (arith, h.0) in same);
        world = h.1;
        a_holds = (omega arith, h.1);
        b_holds = (le, at);
      }
    ]

passed_left : (first : List ℕ) (ticks : List (List Action)) (tick t : ℕ) (words done : List ℕ) → tick < t
    → IsWorldAt first ticks tick words → IsWorldAt first ticks t done → Picked first ticks t (Open tick words) (Open t done)
passed_left first ticks tick t words done lt at later = record {
  image = record { slot = B; tick = t; words = done };
  is = cond-true (ltb tick t) (Some (record { slot = B; tick = t; words = done })) (Some (record { slot = A; tick = tick; words = words })) (lt-ltb tick t lt);
  tick_is = refl;
  world = later;
  a_holds = (omega arith, at);
  b_holds = (omega arith, later);
}

passed_right : (first : List ℕ) (ticks : List (List Action)) (tick t : ℕ) (words done : List ℕ) → tick < t
    → IsWorldAt first ticks tick words → IsWorldAt first ticks t done → Picked first ticks t (Open t done) (Open tick words)
passed_right first ticks tick t words done lt at later = record {
  image = record { slot = A; tick = t; words = done };
  is = cond-false (ltb t tick) (Some (record { slot = B; tick = tick; words = words })) (Some (record { slot = A; tick = t; words = done })) (le-ltb t tick (omega arith));
  tick_is = refl;
  world = later;
  a_holds = (omega arith, later);
  b_holds = (omega arith, at);
}

-- the tick of the newest image, or of the round in work
abbrev pub IsImageTick : ℕ → Option Round → ℕ → Type 0
IsImageTick tick None t = t ≡ tick
IsImageTick tick (Some round) t = (t ≡ tick) ⊎ (t ≡ round.tick)

pub record ImagePair (first : List ℕ) (ticks : List (List Action)) (tick : ℕ) (words : List ℕ) (round : Option Round) (now : Image) : Type 0 where
  t : ℕ
  on_left : Picked first ticks t (Open tick words) now
  on_right : Picked first ticks t now (Open tick words)
  which : IsImageTick tick round t

kept_pair : (first : List ℕ) (ticks : List (List Action)) (tick : ℕ) (words : List ℕ) (round : Option Round) (now : Image)
    → IsImageTick tick round tick → IsWorldAt first ticks tick words → HoldsWorld first ticks tick now → ImagePair first ticks tick words round now
kept_pair first ticks tick words round now which at h = record { t = tick; on_left = kept_left first ticks tick words now at h; on_right = kept_right first ticks tick words now at h; which = which }

image_pair : (first : List ℕ) (ticks : List (List Action)) (tick : ℕ) (words : List ℕ) (before : Image) (round : Option Round)
    (now : Image) → IsWorldAt first ticks tick words → HoldsWorld first ticks tick before → IsRoundOf first ticks tick round
    → IsTarget (length first) before round now → ImagePair first ticks tick words round now
image_pair first ticks tick words before None now at h r e = subst (λ i. ImagePair first ticks tick words None i) (sym e) (kept_pair first ticks tick words None before refl at h)
image_pair first ticks tick words before (Some round) now at h r (inl e) =
    subst (λ i. ImagePair first ticks tick words (Some round) i) (sym e) (kept_pair first ticks tick words (Some round) before (inl refl) at h)
image_pair first ticks tick words before (Some round) now at h r (inr (inl e)) =
    subst (λ i. ImagePair first ticks tick words (Some round) i) (sym e) (kept_pair first ticks tick words (Some round) Closed (inl refl) at tt)
image_pair first ticks tick words before (Some round) now at h r (inr (inr e)) =
    let pair : ImagePair first ticks tick words (Some round) (Open round.tick round.taken) = record {
      t = round.tick;
      on_left = passed_left first ticks tick round.tick words round.taken r.0 at (r.1 e.1);
      on_right = passed_right first ticks tick round.tick words round.taken r.0 at (r.1 e.1);
      which = inr refl;
    } in
    subst (λ i. ImagePair first ticks tick words (Some round) i) (sym e.0) pair

-- ---- together

or_false : (x y : Bool) → x ≡ false → y ≡ false → (x || y) ≡ false
or_false b y h k = search rules

well_formed : (first : List ℕ) (ticks : List (List Action)) (most : ℕ) (image : Image) → HoldsWorld first ticks most image → is_bad_image image ≡ false
well_formed first ticks most b h = search rules

still_holds : (first : List ℕ) (ticks : List (List Action)) (most more : ℕ) (image : Image) → most ≤ more → HoldsWorld first ticks most image → HoldsWorld first ticks more image
still_holds first ticks most more b le h = search rules

-- the replay on the picked image is a sound reading
pub picked_reading : (first : List ℕ) (ticks : List (List Action)) (acknowledged t : ℕ) (image_a image_b : Image)
    (log_a log_b : Segment) (p : Picked first ticks t image_a image_b) → is_bad_segment log_a ≡ false → is_bad_segment log_b ≡ false
    → (more : ℕ) (words : List ℕ) → recovery_from (Some p.image) log_a log_b ≡ Ok (record { tick = p.image.tick + more; from = p.image.tick; slot = p.image.slot; words = words })
    → acknowledged ≤ p.image.tick + more → IsWorldAt first ticks (p.image.tick + more) words → BeginsUpTo (p.image.tick + more) log_a → BeginsUpTo (p.image.tick + more) log_b
    → IsSoundReading image_a image_b log_a log_b first ticks acknowledged
picked_reading first ticks acknowledged t image_a image_b log_a log_b p fa fb more words is reaches world begins_a begins_b =
    let n = p.image in
    let images_formed : (is_bad_image image_a || is_bad_image image_b)
    ≡ false = or_false (is_bad_image image_a) (is_bad_image image_b) (well_formed first ticks n.tick image_a p.a_holds) (well_formed first ticks n.tick image_b p.b_holds) in
    let logs_formed : (is_bad_segment log_a || is_bad_segment log_b) ≡ false = or_false (is_bad_segment log_a) (is_bad_segment log_b) fa fb in
    let later : n.tick ≤ n.tick + more = omega arith in
    record {
      recovery = record { tick = n.tick + more; from = n.tick; slot = n.slot; words = words };
      stands =
          cond-false (is_bad_image image_a || is_bad_image image_b) (Err BadImage)
          (cond (is_bad_segment log_a || is_bad_segment log_b) (Err BadLog) (recovery_from (newest image_a image_b) log_a log_b)) images_formed
          ∙ cond-false (is_bad_segment log_a || is_bad_segment log_b) (Err BadLog) (recovery_from (newest image_a image_b) log_a log_b) logs_formed
          ∙ ap (λ o. recovery_from o log_a log_b) p.is
          ∙ is;
      keeps = reaches;
      world = world;
      image_a_holds = still_holds first ticks n.tick (n.tick + more) image_a later p.a_holds;
      image_b_holds = still_holds first ticks n.tick (n.tick + more) image_b later p.b_holds;
      log_a_begins = begins_a;
      log_b_begins = begins_b;
    }

pub sound_reading : (first : List ℕ) (ticks : List (List Action)) (acknowledged t : ℕ) (last : List ℕ) (image_a image_b : Image)
    (log_a log_b : Segment) → after_ticks first ticks ≡ Ok last → Picked first ticks t image_a image_b
    → IsTail ticks acknowledged t log_a log_b → is_bad_segment log_a ≡ false → is_bad_segment log_b ≡ false → IsSoundReading image_a image_b log_a log_b first ticks acknowledged
sound_reading first ticks acknowledged t last image_a image_b log_a log_b all p from fa fb =
    let n = p.image in
    let at : IsTail ticks acknowledged n.tick log_a log_b = subst (λ m. IsTail ticks acknowledged m log_a log_b) (sym p.tick_is) from in
    let on = world_on first ticks n.tick at.more n.words last all at.ended p.world in
    let rest : List (List Action) = take at.more (drop n.tick ticks) in
    let len : length rest ≡ at.more = omega (arith, length-take at.more (drop n.tick ticks), length-drop n.tick ticks, at.ended) in
    picked_reading first ticks acknowledged t image_a image_b log_a log_b p fa fb at.more on.later_words
    (ap (replayed n) at.is ∙ ap (recovery_with n rest) on.replays ∙ ap (λ m. Ok (record { tick = n.tick + m; from = n.tick; slot = n.slot; words = on.later_words })) len)
    at.reaches on.world at.a_begins at.b_begins

-- ---- the bases

pub begins : (low : ℕ) (ticks : List ℕ) → RiseFrom low ticks → BeginFrom low ticks
begins low b rise = search rules

-- a switch to come is past all that the current segment has
past : (low end t : ℕ) (front after to_come : List ℕ) → to_come ≡ front ++ t ∷ after → RiseFrom low to_come → BeginFrom end to_come → (low < t) × (end ≤ t)
past low end t [] after [] e rise begin = absurd cc
past low end t (first ∷ front) after [] e rise begin = absurd cc
past low end t [] after (s ∷ to_come) e rise begin = (let same : s ≡ t = cc in (omega (arith, rise.0), omega (arith, begin)))
past low end t (first ∷ front) after (s ∷ to_come) e rise begin =
    let rest : to_come ≡ front ++ t ∷ after = cc in
    let h = past s s t front after to_come rest rise.1 (begins s to_come rise.1) in
    (omega (arith, rise.0, h.0), omega (arith, begin, h.1))

module _ (ticks : List (List Action)) (logs : Logs) (t : ℕ) (later : List ℕ) where
  from_current : (front after : List ℕ) → logs.base ∷ coming logs.switch later ≡ front ++ t ∷ after
      → RiseFrom logs.base (coming logs.switch later) → BeginFrom (logs.base + length (logs.kept ++ logs.pending)) (coming logs.switch later) → LeadsOn ticks logs t
  from_current [] after e rise begin = inl (let same : logs.base ≡ t = cc in sym same)
  from_current (first ∷ front) after e rise begin =
      let rest : coming logs.switch later ≡ front ++ t ∷ after = cc in
      inr (inl (past logs.base (logs.base + length (logs.kept ++ logs.pending)) t front after (coming logs.switch later) rest rise begin))

  none_comes : (switch : Option ℕ) (base : ℕ) (after : List ℕ) → after ≡ base ∷ coming switch later → length after ≤ 1 → switch ≡ None
  none_comes None base after e le = refl
  none_comes (Some tick) base after e le = absurd (omega (arith, ap length e, le))

  -- from the last of the bases, and from the one before it, the log leads on
  place_leads : (before : Segment) (front after : List ℕ) → logs.before ≡ before → base_in before ++ logs.base ∷ coming logs.switch later ≡ front ++ t ∷ after → length after ≤ 1
      → RiseFrom logs.base (coming logs.switch later) → BeginFrom (logs.base + length (logs.kept ++ logs.pending)) (coming logs.switch later) → LeadsOn ticks logs t
  place_leads ClosedSegment front after is e le rise begin = from_current front after e rise begin
  place_leads MalformedSegment front after is e le rise begin = from_current front after e rise begin
  place_leads (OpenSegment earlier first) [] after is e le rise begin =
      let same : earlier ≡ t = cc in
      let rest : after ≡ logs.base ∷ coming logs.switch later = cc in
      inr (inr (none_comes logs.switch logs.base after rest le, subst (λ s. has_base t s ≡ true) (sym is) (eq-eqb earlier t same)))
  place_leads (OpenSegment earlier first) (one ∷ front) after is e le rise begin =
      let rest : logs.base ∷ coming logs.switch later ≡ front ++ t ∷ after = cc in
      from_current front after rest rise begin

image_leads : (ticks : List (List Action)) (later : List ℕ) (images : Images) (logs : Logs) (m : FollowMarks later images logs)
    (round : Option Round) (t : ℕ) → images.round ≡ round → IsImageTick images.tick round t → LeadsOn ticks logs t
image_leads ticks later images logs m None t is e =
    let bases : base_in logs.before ++ logs.base ∷ coming logs.switch later ≡ m.earlier ++ images.tick ∷ [] = subst
    (λ r. base_in logs.before ++ logs.base ∷ coming logs.switch later ≡ m.earlier ++ images.tick ∷ round_tick r) is m.bases in
    subst (λ n. LeadsOn ticks logs n) (sym e) (place_leads ticks logs images.tick later logs.before m.earlier [] refl bases (omega arith) m.rising m.in_order)
image_leads ticks later images logs m (Some round) t is (inl e) =
    let bases : base_in logs.before ++ logs.base ∷ coming logs.switch later ≡ m.earlier ++ images.tick ∷ round.tick ∷ [] = subst
    (λ r. base_in logs.before ++ logs.base ∷ coming logs.switch later ≡ m.earlier ++ images.tick ∷ round_tick r) is m.bases in
    subst (λ n. LeadsOn ticks logs n) (sym e) (place_leads ticks logs images.tick later logs.before m.earlier (round.tick ∷ []) refl bases (omega arith) m.rising m.in_order)
image_leads ticks later images logs m (Some round) t is (inr e) =
    let bases : base_in logs.before ++ logs.base ∷ coming logs.switch later ≡ m.earlier ++ images.tick ∷ round.tick ∷ [] = subst
    (λ r. base_in logs.before ++ logs.base ∷ coming logs.switch later ≡ m.earlier ++ images.tick ∷ round_tick r) is m.bases in
    subst (λ n. LeadsOn ticks logs n) (sym e)
    (place_leads ticks logs round.tick later logs.before (m.earlier ++ images.tick ∷ []) [] refl
    (bases ∙ sym (append_assoc m.earlier (images.tick ∷ []) (round.tick ∷ []))) (omega arith) m.rising m.in_order)

-- the picked image is no older than the newest image
not_older : (first : List ℕ) (ticks : List (List Action)) (newest : ℕ) (round : Option Round) (t : ℕ) → IsRoundOf first ticks newest round → IsImageTick newest round t → newest ≤ t
not_older first ticks newest None t of e = omega (arith, e)
not_older first ticks newest (Some round) t of (inl e) = omega (arith, e)
not_older first ticks newest (Some round) t of (inr e) = omega (arith, e, of.0)

-- ---- the two slots

pub record ReadImages (first : List ℕ) (ticks : List (List Action)) (tick : ℕ) (round : Option Round) (image_a image_b : Image) : Type 0 where
  pub t : ℕ
  pub picked : Picked first ticks t image_a image_b
  pub which : IsImageTick tick round t

pub read_images : (first : List ℕ) (ticks : List (List Action)) (slot : Slot) (tick : ℕ) (words : List ℕ) (before : Image)
    (round : Option Round) (may_a may_b : List ℕ → Type 0) → IsWorldAt first ticks tick words → HoldsWorld first ticks tick before → IsRoundOf first ticks tick round
    → ((bytes : List ℕ) → in_slot slot may_a may_b bytes → image_of bytes ≡ Open tick words)
    → ((bytes : List ℕ) → beside_slot slot may_a may_b bytes → IsTarget (length first) before round (image_of bytes))
    → (a b : List ℕ) → may_a a → may_b b → ReadImages first ticks tick round (image_of a) (image_of b)
read_images first ticks A tick words before round may_a may_b at h r newest_is target_is a b ha hb =
    let pair = image_pair first ticks tick words before round (image_of b) at h r (target_is b hb) in
    let read : ReadImages first ticks tick round (Open tick words) (image_of b) = record { t = pair.t; picked = pair.on_left; which = pair.which } in
    subst (λ i. ReadImages first ticks tick round i (image_of b)) (sym (newest_is a ha)) read
read_images first ticks B tick words before round may_a may_b at h r newest_is target_is a b ha hb =
    let pair = image_pair first ticks tick words before round (image_of a) at h r (target_is a ha) in
    let read : ReadImages first ticks tick round (image_of a) (Open tick words) = record { t = pair.t; picked = pair.on_right; which = pair.which } in
    subst (λ i. ReadImages first ticks tick round (image_of a) i) (sym (newest_is b hb)) read

record ReadLogs (ticks : List (List Action)) (acknowledged t : ℕ) (log_a log_b : Segment) : Type 0 where
  tail_is : IsTail ticks acknowledged t log_a log_b
  a_formed : is_bad_segment log_a ≡ false
  b_formed : is_bad_segment log_b ≡ false

read_logs : (ticks : List (List Action)) (acknowledged newest t : ℕ) (logs : Logs) (slot : Slot) (may_a may_b : List ℕ → Type 0)
    → LogsFollow ticks acknowledged newest logs → newest ≤ t → t ≤ length ticks → LeadsOn ticks logs t
    → ((bytes : List ℕ) → in_slot slot may_a may_b bytes → (now : Segment) × IsSegment bytes now × IsCurrent logs now)
    → ((bytes : List ℕ) → beside_slot slot may_a may_b bytes → (now : Segment) × IsSegment bytes now × IsOther logs.before logs.switch now)
    → (a b : List ℕ) → may_a a → may_b b → BothRead a b (ReadLogs ticks acknowledged t)
read_logs ticks acknowledged newest t logs A may_a may_b f from ended leads current_is other_is a b ha hb =
    let current = current_is a ha in
    let other = other_is b hb in
    let pair = log_pair ticks acknowledged newest t logs current.0 other.0 f current.2 other.2 from ended leads in
    record { a = current.0; b = other.0; reads_a = current.1; reads_b = other.1; holds = record { tail_is = pair.first; a_formed = pair.current_formed; b_formed = pair.other_formed } }
read_logs ticks acknowledged newest t logs B may_a may_b f from ended leads current_is other_is a b ha hb =
    let current = current_is b hb in
    let other = other_is a ha in
    let pair = log_pair ticks acknowledged newest t logs current.0 other.0 f current.2 other.2 from ended leads in
    record { a = other.0; b = current.0; reads_a = other.1; reads_b = current.1; holds = record { tail_is = pair.second; a_formed = pair.other_formed; b_formed = pair.current_formed } }

-- ---- the law

pub files_are_sound : (image_a image_b log_a log_b : List ℕ → Type 0)
    → (first : List ℕ) (ticks : List (List Action)) (acknowledged : ℕ) (last : List ℕ) (images : Images) (logs : Logs) (later : List ℕ)
    → after_ticks first ticks ≡ Ok last → ImagesFollow first ticks images → LogsFollow ticks acknowledged images.tick logs → FollowMarks later images logs
    → ImagesAre (length first) images image_a image_b → LogsAre logs log_a log_b
    → IsSound image_a image_b log_a log_b first ticks acknowledged
files_are_sound image_a image_b log_a log_b first ticks acknowledged last images logs later all fi fl m ai al a b la lb ha hb hla hlb =
    let i = read_images first ticks images.slot images.tick images.words images.before images.round image_a image_b fi.newest fi.before fi.round ai.newest ai.target a b ha hb in
    let ended : i.t ≤ length ticks = subst (λ n. n ≤ length ticks) i.picked.tick_is i.picked.world.ended in
    let leads = image_leads ticks later images logs m images.round i.t refl i.which in
    let from = not_older first ticks images.tick images.round i.t fi.round i.which in
    let l = read_logs ticks acknowledged images.tick i.t logs logs.slot log_a log_b fl from ended leads al.current al.other la lb hla hlb in
    record {
      a = l.a;
      b = l.b;
      reads_a = l.reads_a;
      reads_b = l.reads_b;
      holds = sound_reading first ticks acknowledged i.t last (image_of a) (image_of b) l.a l.b all i.picked l.holds.tail_is l.holds.a_formed l.holds.b_formed;
    }
