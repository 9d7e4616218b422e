-- The records that a cover takes, and those that it leaves.
use Rattle.std.proofs.Common.{◌≡◌, ◌⊎◌, inl, inr, ℕ, zero, suc, ◌+◌, ◌<◌, ◌≤◌, Bool, true, false, List, [], ◌∷◌, ◌++◌, length, take, drop, refl, sym, ap, subst, ◌∙◌, arith}
use Rattle.std.specs.Prelude.{slice_get, Option, Some, None, unwrap_or, option_map, if◌then◌else◌, nat_eq}
use Rattle.std.proofs.lemmas.Bool.{cases_lt}
use Rattle.std.proofs.lemmas.Bool.Decides.{eqb_tells}
use Rattle.std.proofs.lemmas.List.{take-append-drop, length-take}
use Rattle.action_log.specs.declared.answer.LogAnswer.{LogAnswer}
use Rattle.action_log.specs.declared.answer.LogAnswer.TheVariants as answer
use Rattle.action_log.specs.declared.record.Record.{Record}
use Rattle.action_log.specs.declared.record.Record.TheVariants as records
use Rattle.action_log.specs.declared.phase.Phase.{Phase}
use Rattle.action_log.specs.declared.phase.Phase.TheVariants.{Ready}
use Rattle.action_log.specs.declared.progress.Progress.{Progress}
use Rattle.action_log.specs.Progress.{work_of, QueueFollowsIn, QueueFollows, end_in, end_of}
use Rattle.action_log.specs.Queue.{queue_work, QueueFits, queue_end}
use Rattle.action_log.specs.Logs.{Logs}
use Rattle.action_log.specs.LogSteps.{is_idle}
use Rattle.action_log.specs.Cover.{is_switch, switch_place, before_switch, is_tick, has_tick, answer_of, CoverStep}
use Rattle.action_log.proofs.QueueLemmas.{queue_work-append}

-- ---- the place of the switch

map_none : (place : Option ℕ) → option_map suc place ≡ None → place ≡ None
map_none None is = refl
map_none (Some n) is = absurd cc

map_some : (place : Option ℕ) (n : ℕ) → option_map suc place ≡ Some n → (m : ℕ) × (n ≡ suc m) × (place ≡ Some m)
map_some None n is = absurd cc
map_some (Some m) n is = (m, (let e : n ≡ suc m = cc in e), refl)

none_by : (here : Bool) (place : Option ℕ) → (if here then Some 0 else option_map suc place) ≡ None → (here ≡ false) × (place ≡ None)
none_by true place is = absurd cc
none_by false place is = (refl, map_none place is)

not_here : (tick : ℕ) (first : Record) (queue : List Record) → is_switch tick first ≡ false → switch_place tick (first ∷ queue) ≡ option_map suc (switch_place tick queue)
not_here tick first queue is = ap (λ here. if here then Some 0 else option_map suc (switch_place tick queue)) is

-- a record that isn't the switch leaves it to come
pub place_push : (tick : ℕ) (queue : List Record) (i : ℕ) (first : Record) → slice_get queue i ≡ Some first
    → is_switch tick first ≡ false → switch_place tick (take i queue) ≡ None → switch_place tick (take (suc i) queue) ≡ None
place_push tick [] i first get not none = absurd cc
place_push tick (x ∷ queue) zero first get not none = let e : x ≡ first = cc in ap (λ (r : Record). switch_place tick (r ∷ [])) e ∙ not_here tick first [] not
place_push tick (x ∷ queue) (suc i) first get not none =
    let rest = none_by (is_switch tick x) (switch_place tick (take i queue)) none in
    not_here tick x (take (suc i) queue) rest.0 ∙ ap (option_map suc) (place_push tick queue i first get not rest.1)

-- the first one that is the switch is in its place
pub place_found : (tick : ℕ) (queue : List Record) (i : ℕ) (first : Record) → slice_get queue i ≡ Some first
    → is_switch tick first ≡ true → switch_place tick (take i queue) ≡ None → switch_place tick queue ≡ Some i
place_found tick [] i first get is none = absurd cc
place_found tick (x ∷ queue) zero first get is none =
    let e : x ≡ first = cc in
    ap (λ (r : Record). switch_place tick (r ∷ queue)) e ∙ ap (λ here. if here then Some 0 else option_map suc (switch_place tick queue)) is
place_found tick (x ∷ queue) (suc i) first get is none =
    let rest = none_by (is_switch tick x) (switch_place tick (take i queue)) none in
    not_here tick x queue rest.0 ∙ ap (option_map suc) (place_found tick queue i first get is rest.1)

some_by : (tick number : ℕ) (here : Bool) (place : Option ℕ) (n : ℕ) → nat_eq number tick ≡ here → (if here then Some 0 else option_map suc place) ≡ Some n
    → ((n ≡ 0) × (number ≡ tick)) ⊎ ((m : ℕ) × (n ≡ suc m) × (place ≡ Some m))
some_by tick number true place n same is = elim (eqb_tells number tick) [
  | inl reports ↦ inl ((let e : n ≡ 0 = cc in e), reports.1)
  | inr reports ↦ absurd (let e : true ≡ false = sym same ∙ reports.0 in cc)
]
some_by tick number false place n same is = inr (map_some place n is)

-- the switch is in its place
pub place_is : (tick : ℕ) (queue : List Record) (n : ℕ) → switch_place tick queue ≡ Some n → (behind : List Record) × (drop n queue ≡ records.Switch tick ∷ behind) × (n < length queue)
place_is tick [] n is = absurd cc
place_is tick (records.Tick actions ∷ queue) n is =
    let more = map_some (switch_place tick queue) n is in
    let rest = place_is tick queue more.0 more.2 in
    (rest.0, ap (λ (m : ℕ). drop m (records.Tick actions ∷ queue)) more.1 ∙ rest.1, omega (arith, more.1, rest.2))
place_is tick (records.Switch number ∷ queue) n is = elim (some_by tick number (nat_eq number tick) (switch_place tick queue) n refl is) [
  | inl here ↦ (queue, ap (λ (m : ℕ). drop m (records.Switch number ∷ queue)) here.0 ∙ ap (λ (t : ℕ). records.Switch t ∷ queue) here.1, omega (arith, here.0))
  | inr more ↦
      let rest = place_is tick queue more.0 more.2 in
      (rest.0, ap (λ (m : ℕ). drop m (records.Switch number ∷ queue)) more.1 ∙ rest.1, omega (arith, more.1, rest.2))
]

-- ---- the records before it

found_by : (a b : Bool) → b ≡ true → (if a then true else b) ≡ true
found_by true b is = refl
found_by false b is = is

neither : (a b : Bool) → (if a then true else b) ≡ false → (a ≡ false) × (b ≡ false)
neither true b is = absurd cc
neither false b is = (refl, is)

pub tick_found : (queue : List Record) (i count : ℕ) (first : Record) → i < count → slice_get queue i ≡ Some first → is_tick first ≡ true → has_tick (take count queue) ≡ true
tick_found [] i count first lt get is = absurd cc
tick_found (x ∷ queue) i zero first lt get is = absurd (omega (arith, lt))
tick_found (x ∷ queue) zero (suc count) first lt get is = let e : x ≡ first = cc in ap (λ (b : Bool). if b then true else has_tick (take count queue)) (ap is_tick e ∙ is)
tick_found (x ∷ queue) (suc i) (suc count) first lt get is = found_by (is_tick x) (has_tick (take count queue)) (tick_found queue i count first (omega (arith, lt)) get is)

-- a record that is no tick adds none
pub no_tick_push : (queue : List Record) (i : ℕ) (first : Record) → slice_get queue i ≡ Some first → is_tick first ≡ false → has_tick (take i queue) ≡ false → has_tick (take (suc i) queue) ≡ false
no_tick_push [] i first get not none = absurd cc
no_tick_push (x ∷ queue) zero first get not none = let e : x ≡ first = cc in ap (λ (b : Bool). if b then true else false) (ap is_tick e ∙ not)
no_tick_push (x ∷ queue) (suc i) first get not none =
    let rest = neither (is_tick x) (has_tick (take i queue)) none in
    ap (λ (b : Bool). if b then true else has_tick (take (suc i) queue)) rest.0 ∙ no_tick_push queue i first get not rest.1

pub none_push : (queue : List Record) (i : ℕ) → slice_get queue i ≡ None → take (suc i) queue ≡ take i queue
none_push [] zero is = refl
none_push [] (suc i) is = refl
none_push (x ∷ queue) zero is = absurd cc
none_push (x ∷ queue) (suc i) is = ap (λ (l : List Record). x ∷ l) (none_push queue i is)

by_place : (tick : ℕ) (queue : List Record) (place : Option ℕ) → switch_place tick queue ≡ place → unwrap_or place 0 ≤ length queue
by_place tick queue None is = omega arith
by_place tick queue (Some n) is = let at = place_is tick queue n is in omega (arith, at.2)

pub before_switch_most : (tick : ℕ) (queue : List Record) → before_switch tick queue ≤ length queue
before_switch_most tick queue = by_place tick queue (switch_place tick queue) refl

-- if there are some, the switch is after them
abbrev pub IsBeforeSwitch : ℕ → List Record → ℕ → Type 0
IsBeforeSwitch tick queue n = (n ≡ 0) ⊎ ((behind : List Record) × (drop n queue ≡ records.Switch tick ∷ behind))

before_by_place : (tick : ℕ) (queue : List Record) (place : Option ℕ) → switch_place tick queue ≡ place → IsBeforeSwitch tick queue (unwrap_or place 0)
before_by_place tick queue None is = inl refl
before_by_place tick queue (Some n) is = let at = place_is tick queue n is in inr (at.0, at.1)

pub before_switch_is : (tick : ℕ) (queue : List Record) → IsBeforeSwitch tick queue (before_switch tick queue)
before_switch_is tick queue = before_by_place tick queue (switch_place tick queue) refl

-- ---- the answer

pub answer_acked : (tick : ℕ) (taken : List Record) → has_tick taken ≡ true → answer_of tick taken ≡ answer.Acked tick
answer_acked tick [] is = absurd cc
answer_acked tick (first ∷ taken) is = ap (λ b. if b then answer.Acked tick else answer.Working) is

pub answer_working : (tick : ℕ) (taken : List Record) → has_tick taken ≡ false → 0 < length taken → answer_of tick taken ≡ answer.Working
answer_working tick [] is some = absurd (omega (arith, some))
answer_working tick (first ∷ taken) is some = ap (λ b. if b then answer.Acked tick else answer.Working) is

-- ---- the records after the keeper

-- the switch is in front of the records that are left, and the queue ends as before
pub fits_from : (base count : ℕ) (queue : List Record) (n tick : ℕ) (behind : List Record) → drop n queue ≡ records.Switch tick ∷ behind → QueueFits base count queue
    → QueueFits base count (records.Switch tick ∷ behind) × (queue_end tick 0 behind ≡ queue_end base count queue)
fits_from base count queue zero tick behind is fits = (subst (QueueFits base count) is fits, sym (ap (queue_end base count) is))
fits_from base count [] (suc n) tick behind is fits = absurd cc
fits_from base count (records.Tick actions ∷ queue) (suc n) tick behind is fits =
    let rest = fits_from base (count + 1) queue n tick behind is fits.2 in
    ((omega (arith, rest.0.0), rest.0.1, rest.0.2), rest.1)
fits_from base count (records.Switch number ∷ queue) (suc n) tick behind is fits =
    let rest = fits_from number 0 queue n tick behind is fits.2 in
    ((omega (arith, rest.0.0, fits.0), rest.0.1, rest.0.2), rest.1)

pub fits_left : (base count tick : ℕ) (queue : List Record) (n : ℕ) → IsBeforeSwitch tick queue n → QueueFits base count queue
    → QueueFits base count (drop n queue) × (queue_end base count (drop n queue) ≡ queue_end base count queue)
fits_left base count tick queue n (inl none) fits = subst (λ (m : ℕ). QueueFits base count (drop m queue) × (queue_end base count (drop m queue) ≡ queue_end base count queue)) (sym none) (fits, refl)
fits_left base count tick queue n (inr at) fits =
    let from = fits_from base count queue n tick at.0 at.1 fits in
    (subst (QueueFits base count) (sym at.1) from.0, ap (queue_end base count) at.1 ∙ from.1)

some_work : (queue : List Record) → 0 < length queue → 0 < queue_work queue
some_work [] some = omega (arith, some)
some_work (records.Tick tick ∷ queue) some = omega arith
some_work (records.Switch tick ∷ queue) some = omega arith

-- the records that are taken needed work
pub work_left : (queue : List Record) (n : ℕ) → 0 < n → n ≤ length queue → queue_work (drop n queue) < queue_work queue
work_left [] n some le = absurd (omega (arith, some, le))
work_left (x ∷ queue) zero some le = absurd (omega (arith, some))
work_left (x ∷ queue) (suc n) some le =
    omega (
      arith,
      ap queue_work (take-append-drop (suc n) (x ∷ queue)),
      queue_work-append (take (suc n) (x ∷ queue)) (drop (suc n) (x ∷ queue)),
      some_work (x ∷ take n queue) (omega arith),
    )

busy : (has : Bool) (tick : ℕ) → ((if has then answer.Acked tick else answer.Working) ≡ answer.Idle) ⊎ ((if has then answer.Acked tick else answer.Working) ≡ answer.Down) → ⊥
busy true tick (inl is) = cc
busy true tick (inr is) = cc
busy false tick (inl is) = cc
busy false tick (inr is) = cc

-- a keeper that is ready continues with the records that are left
follows_by : (p : Phase) (base count next_base tick : ℕ) (queue : List Record) (n : ℕ) → p ≡ Ready → IsBeforeSwitch tick queue n → QueueFollowsIn p base count next_base queue
    → QueueFollowsIn p base count next_base (drop n queue) × (end_in p base count next_base (drop n queue) ≡ end_in p base count next_base queue)
follows_by Ready base count next_base tick queue n is before fits = fits_left base count tick queue n before fits
follows_by p base count next_base tick queue n is before fits = absurd cc

pub follows_left : (keeper : Progress) (tick : ℕ) (queue : List Record) → keeper.phase ≡ Ready → QueueFollows keeper queue
    → QueueFollows keeper (drop (before_switch tick queue) queue) × (end_of keeper (drop (before_switch tick queue) queue) ≡ end_of keeper queue)
follows_left keeper tick queue is follows = follows_by keeper.phase keeper.base keeper.count keeper.next_base tick queue (before_switch tick queue) is (before_switch_is tick queue) follows

pub work_falls : (keeper : Progress) (tick : ℕ) (queue : List Record) (n : ℕ) → n ≤ length queue
    → (answer_of tick (take n queue) ≡ answer.Idle) ⊎ (work_of keeper (drop n queue) < work_of keeper queue)
work_falls keeper tick queue n most = elim (cases_lt 0 n) [
  | inl some ↦ inr (omega (arith, work_left queue n some most))
  | inr none ↦ inl (let e : n ≡ 0 = omega (arith, none) in ap (λ (m : ℕ). answer_of tick (take m queue)) e)
]

-- if the answer is Idle, nothing was taken, and it is never Down
pub none_taken : (tick : ℕ) (taken : List Record) → (answer_of tick taken ≡ answer.Idle) ⊎ (answer_of tick taken ≡ answer.Down) → taken ≡ []
none_taken tick [] is = refl
none_taken tick (first ∷ taken) is = absurd (busy (has_tick (first ∷ taken)) tick is)

pub all_left : (queue : List Record) (n : ℕ) → n ≤ length queue → take n queue ≡ [] → drop n queue ≡ queue
all_left queue n most none = let e : n ≡ 0 = omega (arith, most, ap length none, length-take n queue) in ap (λ (m : ℕ). drop m queue) e

-- ---- the step

step_by : (logs : Logs) (tick : ℕ) (queue taken left : List Record) (has : Bool) → has_tick taken ≡ has → queue ≡ taken ++ left
    → (0 < length taken → is_idle logs × ((behind : List Record) × (left ≡ records.Switch tick ∷ behind)))
    → CoverStep logs queue tick (answer_of tick taken) left
step_by logs tick queue [] left has is e at = sym e
step_by logs tick queue (first ∷ taken) left true is e at =
    let from = at (omega arith) in
    subst (λ (a : LogAnswer). CoverStep logs queue tick a left) (sym (answer_acked tick (first ∷ taken) is))
    (first ∷ taken, record { idle = from.0; in_front = e; behind = from.1.0; next = from.1.1 }, is, refl)
step_by logs tick queue (first ∷ taken) left false is e at =
    let from = at (omega arith) in
    subst (λ (a : LogAnswer). CoverStep logs queue tick a left) (sym (answer_working tick (first ∷ taken) is (omega arith)))
    (first ∷ taken, record { idle = from.0; in_front = e; behind = from.1.0; next = from.1.1 }, is)

pub cover_steps : (logs : Logs) (tick : ℕ) (queue : List Record) (n : ℕ) → is_idle logs → IsBeforeSwitch tick queue n → CoverStep logs queue tick (answer_of tick (take n queue)) (drop n queue)
cover_steps logs tick queue n idle (inl none) =
    subst (λ (m : ℕ). CoverStep logs queue tick (answer_of tick (take m queue)) (drop m queue)) (sym none) refl
cover_steps logs tick queue n idle (inr at) =
    step_by logs tick queue (take n queue) (drop n queue) (has_tick (take n queue)) refl (sym (take-append-drop n queue)) (λ some. (idle, at))
