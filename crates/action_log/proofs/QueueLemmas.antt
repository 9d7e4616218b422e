-- The ticks in front of a queue, and the steps that its records need.
use Rattle.std.proofs.Common.{◌≡◌, ◌⊎◌, inl, inr, ℕ, zero, suc, ◌+◌, ◌*◌, ◌<◌, ◌≤◌, List, [], ◌∷◌, ◌++◌, length, take, drop, refl, sym, ap, subst, ◌∙◌, arith, zero-add}
use Rattle.std.specs.Prelude.{slice_get, get_or, Some, None}
use Rattle.world_ticks.specs.Tick.{Actions}
use Rattle.world_ticks.specs.declared.tick.TheConstants.{TICK_MAX}
use Rattle.action_log.specs.declared.format.TheConstants.{SEGMENT_TICKS}
use Rattle.action_log.specs.declared.record.Record.{Record}
use Rattle.action_log.specs.declared.record.Record.TheVariants as records
use Rattle.action_log.specs.Segment.{Tick}
use Rattle.action_log.specs.declared.phase.Phase.{Phase}
use Rattle.action_log.specs.declared.phase.Phase.TheVariants.{Retiring, RetiringSync, Ready, BodySync, Gate, GateSync, Closing, ClosingSync, Header, HeaderSync, Opening, OpeningSync}
use Rattle.action_log.specs.Progress.{QueueFollowsIn, end_in}
use Rattle.action_log.specs.Queue.{group_of, ticks_before, StandBefore, queue_work, QueueFits, queue_end}
use Rattle.action_log.specs.Steps.{StartsWith}

-- ---- the group in front

pub length_group : (n : ℕ) (queue : List Record) → length (group_of n queue) ≤ n
length_group zero queue = omega arith
length_group (suc n) [] = omega arith
length_group (suc n) (records.Switch tick ∷ queue) = omega arith
length_group (suc n) (records.Tick tick ∷ queue) = omega (arith, length_group n queue)

-- the next tick of a group is in front of the rest of the queue
pub record IsNext (group : List Tick) (queue : List Record) (i after : ℕ) : Type 0 where
  pub tick : Tick
  pub in_front : StartsWith tick (drop after queue) (drop i queue)
  pub of_group : take after group ≡ take i group ++ tick ∷ []

group_next : (n : ℕ) (queue : List Record) (i : ℕ) → i < length (group_of n queue) → IsNext (group_of n queue) queue i (suc i)
group_next zero queue i h = absurd (omega (arith, h))
group_next (suc n) [] i h = absurd (omega (arith, h))
group_next (suc n) (records.Switch tick ∷ queue) i h = absurd (omega (arith, h))
group_next (suc n) (records.Tick tick ∷ queue) zero h = record { tick = tick.list; in_front = (refl, refl); of_group = refl }
group_next (suc n) (records.Tick tick ∷ queue) (suc i) h =
    let next = group_next n queue i (omega (arith, h)) in
    record { tick = next.tick; in_front = next.in_front; of_group = ap (λ (l : List Tick). tick.list ∷ l) next.of_group }

pub group_after : (n : ℕ) (queue : List Record) (i : ℕ) → i < length (group_of n queue) → IsNext (group_of n queue) queue i (i + 1)
group_after n queue i h = let e : suc i ≡ i + 1 = omega arith in subst (λ (m : ℕ). IsNext (group_of n queue) queue i m) e (group_next n queue i h)

-- a queue that starts with a tick has one in front
pub starts_behind : (tick : Tick) (rest queue : List Record) → StartsWith tick rest queue → drop 1 queue ≡ rest
starts_behind tick rest [] starts = absurd starts
starts_behind tick rest (records.Tick first ∷ queue) starts = starts.1
starts_behind actions rest (records.Switch tick ∷ queue) starts = absurd starts

pub group_reach : (n : ℕ) (queue : List Record) (i : ℕ) (tick : Actions) → i < n → i ≤ length (group_of n queue) → slice_get queue i ≡ Some (records.Tick tick) → i < length (group_of n queue)
group_reach zero queue i tick lt le is = absurd (omega (arith, lt))
group_reach (suc n) [] i tick lt le is = absurd cc
group_reach (suc n) (records.Switch tick ∷ queue) zero actions lt le is = absurd cc
group_reach (suc n) (records.Switch tick ∷ queue) (suc i) actions lt le is = absurd (omega (arith, le))
group_reach (suc n) (records.Tick first ∷ queue) zero tick lt le is = omega arith
group_reach (suc n) (records.Tick first ∷ queue) (suc i) tick lt le is = let rest = group_reach n queue i tick (omega (arith, lt)) (omega (arith, le)) is in omega (arith, rest)

pub group_has : (n : ℕ) (queue : List Record) (i : ℕ) → i < length (group_of n queue) → (tick : Actions) × (slice_get queue i ≡ Some (records.Tick tick))
group_has zero queue i h = absurd (omega (arith, h))
group_has (suc n) [] i h = absurd (omega (arith, h))
group_has (suc n) (records.Switch tick ∷ queue) i h = absurd (omega (arith, h))
group_has (suc n) (records.Tick tick ∷ queue) zero h = (tick, refl)
group_has (suc n) (records.Tick tick ∷ queue) (suc i) h = group_has n queue i (omega (arith, h))

-- the group is in front of the records that are left
pub group_front : (n : ℕ) (queue : List Record) → StandBefore (group_of n queue) queue (drop (length (group_of n queue)) queue)
group_front zero queue = refl
group_front (suc n) [] = refl
group_front (suc n) (records.Switch tick ∷ queue) = refl
group_front (suc n) (records.Tick tick ∷ queue) = (refl, group_front n queue)

-- no tick follows it, except if it has as many as it may
pub group_most : (n : ℕ) (queue : List Record) → (length (group_of n queue) ≡ n) ⊎ (ticks_before (drop (length (group_of n queue)) queue) ≡ [])
group_most zero queue = inl refl
group_most (suc n) [] = inr refl
group_most (suc n) (records.Switch tick ∷ queue) = inr refl
group_most (suc n) (records.Tick tick ∷ queue) = elim (group_most n queue) [
  | inl all ↦ inl (ap suc all)
  | inr none ↦ inr none
]

pub none_in_front : (queue : List Record) → slice_get queue 0 ≡ None → queue ≡ []
none_in_front [] is = refl
none_in_front (first ∷ queue) is = absurd cc

-- ---- the numbers of ticks

-- a group's ticks have room
pub record HasRoom (base count : ℕ) : Type 0 where
  pub few : count ≤ SEGMENT_TICKS
  pub numbered : base + count ≤ TICK_MAX

pub queue_room : (n base count : ℕ) (queue : List Record) → HasRoom base count → QueueFits base count queue → HasRoom base (count + length (group_of n queue))
queue_room zero base count queue room fits = record { few = omega (arith, room.few); numbered = omega (arith, room.numbered) }
queue_room (suc n) base count [] room fits = record { few = omega (arith, room.few); numbered = omega (arith, room.numbered) }
queue_room (suc n) base count (records.Switch tick ∷ queue) room fits = record { few = omega (arith, room.few); numbered = omega (arith, room.numbered) }
queue_room (suc n) base count (records.Tick tick ∷ queue) room fits =
    let rest = queue_room n base (count + 1) queue (record { few = omega (arith, fits.0); numbered = omega (arith, fits.1) }) fits.2 in
    record { few = omega (arith, rest.few); numbered = omega (arith, rest.numbered) }

pub queue_left : (n base count : ℕ) (queue : List Record) → QueueFits base count queue → QueueFits base (count + length (group_of n queue)) (drop (length (group_of n queue)) queue)
queue_left zero base count queue fits = let e : count ≡ count + 0 = omega arith in subst (λ (m : ℕ). QueueFits base m queue) e fits
queue_left (suc n) base count [] fits = tt
queue_left (suc n) base count (records.Switch tick ∷ queue) fits = let e : count ≡ count + 0 = omega arith in subst (λ (m : ℕ). QueueFits base m (records.Switch tick ∷ queue)) e fits
queue_left (suc n) base count (records.Tick tick ∷ queue) fits =
    let e : (count + 1) + length (group_of n queue) ≡ count + suc (length (group_of n queue)) = omega arith in
    subst (λ (m : ℕ). QueueFits base m (drop (length (group_of n queue)) queue)) e (queue_left n base (count + 1) queue fits.2)

-- the queue ends with the same base and count once a group is taken
pub queue_end_left : (n base count : ℕ) (queue : List Record) → queue_end base (count + length (group_of n queue)) (drop (length (group_of n queue)) queue) ≡ queue_end base count queue
queue_end_left zero base count queue = let e : count + 0 ≡ count = omega arith in ap (λ (m : ℕ). queue_end base m queue) e
queue_end_left (suc n) base count [] = let e : count + 0 ≡ count = omega arith in ap (λ (m : ℕ). queue_end base m []) e
queue_end_left (suc n) base count (records.Switch tick ∷ queue) = refl
queue_end_left (suc n) base count (records.Tick tick ∷ queue) =
    let e : count + suc (length (group_of n queue)) ≡ (count + 1) + length (group_of n queue) = omega arith in
    ap (λ (m : ℕ). queue_end base m (drop (length (group_of n queue)) queue)) e ∙ queue_end_left n base (count + 1) queue

-- a record may be added that fits after the queue
pub queue_grows : (base count : ℕ) (queue : List Record) (added : Record) → QueueFits base count queue
    → QueueFits (queue_end base count queue).base (queue_end base count queue).count (added ∷ []) → QueueFits base count (queue ++ added ∷ [])
queue_grows base count [] added fits at_end = at_end
queue_grows base count (records.Tick tick ∷ queue) added fits at_end = (fits.0, fits.1, queue_grows base (count + 1) queue added fits.2 at_end)
queue_grows base count (records.Switch tick ∷ queue) added fits at_end = (fits.0, fits.1, queue_grows tick 0 queue added fits.2 at_end)

pub queue_end_grows : (base count : ℕ) (queue : List Record) (added : Record)
    → queue_end base count (queue ++ added ∷ []) ≡ queue_end (queue_end base count queue).base (queue_end base count queue).count (added ∷ [])
queue_end_grows base count [] added = refl
queue_end_grows base count (records.Tick tick ∷ queue) added = queue_end_grows base (count + 1) queue added
queue_end_grows base count (records.Switch tick ∷ queue) added = queue_end_grows tick 0 queue added

-- after a keeper's job
pub follows_more : (p : Phase) (base count next_base : ℕ) (queue : List Record) (added : Record) → QueueFollowsIn p base count next_base queue
    → QueueFits (end_in p base count next_base queue).base (end_in p base count next_base queue).count (added ∷ [])
    → QueueFollowsIn p base count next_base (queue ++ added ∷ [])
    × (end_in p base count next_base (queue ++ added ∷ []) ≡ queue_end (end_in p base count next_base queue).base (end_in p base count next_base queue).count (added ∷ []))
follows_more Retiring base count next_base queue added fits at_end = (queue_grows next_base 0 queue added fits at_end, queue_end_grows next_base 0 queue added)
follows_more RetiringSync base count next_base queue added fits at_end = (queue_grows next_base 0 queue added fits at_end, queue_end_grows next_base 0 queue added)
follows_more Ready base count next_base queue added fits at_end = (queue_grows base count queue added fits at_end, queue_end_grows base count queue added)
follows_more BodySync base count next_base queue added fits at_end = (queue_grows base count queue added fits at_end, queue_end_grows base count queue added)
follows_more Gate base count next_base queue added fits at_end = (queue_grows base count queue added fits at_end, queue_end_grows base count queue added)
follows_more GateSync base count next_base queue added fits at_end = (queue_grows base count queue added fits at_end, queue_end_grows base count queue added)
follows_more Closing base count next_base queue added fits at_end = (queue_grows next_base 0 queue added fits at_end, queue_end_grows next_base 0 queue added)
follows_more ClosingSync base count next_base queue added fits at_end = (queue_grows next_base 0 queue added fits at_end, queue_end_grows next_base 0 queue added)
follows_more Header base count next_base queue added fits at_end = (queue_grows next_base 0 queue added fits at_end, queue_end_grows next_base 0 queue added)
follows_more HeaderSync base count next_base queue added fits at_end = (queue_grows next_base 0 queue added fits at_end, queue_end_grows next_base 0 queue added)
follows_more Opening base count next_base queue added fits at_end = (queue_grows next_base 0 queue added fits at_end, queue_end_grows next_base 0 queue added)
follows_more OpeningSync base count next_base queue added fits at_end = (queue_grows next_base 0 queue added fits at_end, queue_end_grows next_base 0 queue added)

-- ---- the work of records

pub queue_work_group : (n : ℕ) (queue : List Record) → queue_work queue ≡ 4 * length (group_of n queue) + queue_work (drop (length (group_of n queue)) queue)
queue_work_group zero queue = omega arith
queue_work_group (suc n) [] = omega arith
queue_work_group (suc n) (records.Switch tick ∷ queue) = omega arith
queue_work_group (suc n) (records.Tick tick ∷ queue) = let rest = queue_work_group n queue in omega (arith, rest)

pub queue_work-append : (queue behind : List Record) → queue_work (queue ++ behind) ≡ queue_work queue + queue_work behind
queue_work-append [] behind = omega arith
queue_work-append (records.Tick tick ∷ queue) behind = let rest = queue_work-append queue behind in omega (arith, rest)
queue_work-append (records.Switch tick ∷ queue) behind = let rest = queue_work-append queue behind in omega (arith, rest)

work_push : (queue : List Record) (i : ℕ) (first : Record) → i < length queue → get_or queue i first ≡ first → queue_work (take (suc i) queue) ≡ queue_work (take i queue) + queue_work (first ∷ [])
work_push [] i first lt is = absurd (omega (arith, lt))
work_push (x ∷ queue) zero first lt is = let e : x ≡ first = is in ap (λ (r : Record). queue_work (r ∷ [])) e ∙ sym (zero-add (queue_work (first ∷ [])))
work_push (records.Tick tick ∷ queue) (suc i) first lt is = let rest = work_push queue i first (omega (arith, lt)) is in omega (arith, rest)
work_push (records.Switch tick ∷ queue) (suc i) first lt is = let rest = work_push queue i first (omega (arith, lt)) is in omega (arith, rest)

pub queue_work_push : (queue : List Record) (i : ℕ) (first : Record) → i < length queue → get_or queue i first ≡ first
    → queue_work (take (i + 1) queue) ≡ queue_work (take i queue) + queue_work (first ∷ [])
queue_work_push queue i first lt is =
    let e : suc i ≡ i + 1 = omega arith in subst (λ (m : ℕ). queue_work (take m queue) ≡ queue_work (take i queue) + queue_work (first ∷ [])) e (work_push queue i first lt is)
