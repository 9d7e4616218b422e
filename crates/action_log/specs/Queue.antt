-- The records that wait for the log.
use Rattle.std.specs.Prelude.{◌≡◌, ℕ, zero, suc, ◌+◌, ◌<◌, ◌≤◌, List, [], ◌∷◌, ⊤}
use Rattle.world_ticks.specs.declared.tick.TheConstants.{TICK_MAX}
use Rattle.action_log.specs.declared.format.TheConstants.{SEGMENT_TICKS}
use Rattle.action_log.specs.declared.record.Record.{Record}
use Rattle.action_log.specs.declared.record.Record.TheVariants as records
use Rattle.action_log.specs.Segment.{Tick}

-- the ticks in front of the first switch, up to a number of them
abbrev pub group_of : ℕ → List Record → List Tick
group_of zero queue = []
group_of (suc n) [] = []
group_of (suc n) (records.Tick tick ∷ queue) = tick.list ∷ group_of n queue
group_of (suc n) (records.Switch tick ∷ queue) = []

-- all ticks in front of the first switch
abbrev pub ticks_before : List Record → List Tick
ticks_before [] = []
ticks_before (records.Tick tick ∷ queue) = tick.list ∷ ticks_before queue
ticks_before (records.Switch tick ∷ queue) = []

-- these ticks are in front of a queue, and these records follow them
abbrev pub StandBefore : List Tick → List Record → List Record → Type 0
StandBefore [] queue left = queue ≡ left
StandBefore (actions ∷ ticks) [] left = ⊥
StandBefore (actions ∷ ticks) (records.Tick first ∷ queue) left =
    (first.list ≡ actions) × StandBefore ticks queue left
StandBefore (actions ∷ ticks) (records.Switch tick ∷ queue) left = ⊥

-- the number of steps that the records need: four for a tick in its own group, six for a switch
abbrev pub queue_work : List Record → ℕ
queue_work [] = 0
queue_work (records.Tick tick ∷ queue) = 4 + queue_work queue
queue_work (records.Switch tick ∷ queue) = 6 + queue_work queue

-- The records may follow `count` ticks since this base. A switch is at no smaller tick than the
-- last one before it. No segment gets more ticks, or greater tick numbers, than the format takes.
abbrev pub QueueFits : ℕ → ℕ → List Record → Type 0
QueueFits base count [] = ⊤
QueueFits base count (records.Tick tick ∷ queue) =
    (count < SEGMENT_TICKS) × (base + count < TICK_MAX) × QueueFits base (count + 1) queue
QueueFits base count (records.Switch tick ∷ queue) =
    (base + count ≤ tick) × (tick ≤ TICK_MAX) × QueueFits tick 0 queue

-- the base after a queue, and the number of ticks since
pub record QueueEnd : Type 0 where
  pub base : ℕ
  pub count : ℕ

abbrev pub queue_end : ℕ → ℕ → List Record → QueueEnd
queue_end base count [] = record { base = base; count = count }
queue_end base count (records.Tick tick ∷ queue) = queue_end base (count + 1) queue
queue_end base count (records.Switch tick ∷ queue) = queue_end tick 0 queue
