-- The records that a cover takes from the queue: those before the switch at the tick of an opened
-- image, which has their ticks.
use Rattle.std.specs.Prelude.{◌≡◌, ℕ, suc, Bool, true, false, Option, Some, None, List, [], ◌∷◌}
use Rattle.std.specs.Prelude.{◌++◌, take, drop, nat_eq, unwrap_or, option_map, if◌then◌else◌}
use Rattle.action_log.specs.declared.answer.LogAnswer.{LogAnswer}
use Rattle.action_log.specs.declared.answer.LogAnswer.TheVariants as answer
use Rattle.action_log.specs.declared.phase.Phase.{Phase}
use Rattle.action_log.specs.declared.phase.Phase.TheVariants.{Ready}
use Rattle.action_log.specs.declared.progress.Progress.{Progress}
use Rattle.action_log.specs.declared.record.Record.{Record}
use Rattle.action_log.specs.declared.record.Record.TheVariants as records
use Rattle.action_log.specs.Logs.{Logs}
use Rattle.action_log.specs.LogSteps.{is_idle}

-- true if the record is the switch at this tick
abbrev pub is_switch : ℕ → Record → Bool
is_switch tick (records.Tick actions) = false
is_switch tick (records.Switch number) = nat_eq number tick

-- the place of the first switch at this tick
abbrev pub switch_place : ℕ → List Record → Option ℕ
switch_place tick [] = None
switch_place tick (first ∷ queue) =
    if is_switch tick first then Some 0 else option_map suc (switch_place tick queue)

-- the number of records before that switch, or 0 if there is no such switch
abbrev pub before_switch : ℕ → List Record → ℕ
before_switch tick queue = unwrap_or (switch_place tick queue) 0

abbrev pub is_tick : Record → Bool
is_tick (records.Tick actions) = true
is_tick (records.Switch number) = false

-- true if a tick is among these records
abbrev pub has_tick : List Record → Bool
has_tick [] = false
has_tick (first ∷ queue) = if is_tick first then true else has_tick queue

abbrev pub is_ready : Phase → Bool
is_ready Ready = true
is_ready phase = false

-- the number of records that a cover takes: none once the keeper is down, or while a job is in work
abbrev pub covered_count : Progress → ℕ → List Record → ℕ
covered_count keeper tick queue =
    if keeper.down then 0 else (if is_ready keeper.phase then before_switch tick queue else 0)

-- the records that a cover takes, and those that it leaves
abbrev pub covered : Progress → ℕ → List Record → List Record
covered keeper tick queue = take (covered_count keeper tick queue) queue

abbrev pub uncovered : Progress → ℕ → List Record → List Record
uncovered keeper tick queue = drop (covered_count keeper tick queue) queue

-- the answer of a cover, by the records that it took
abbrev pub answer_of : ℕ → List Record → LogAnswer
answer_of tick [] = answer.Idle
answer_of tick (first ∷ taken) =
    if has_tick (first ∷ taken) then answer.Acked tick else answer.Working

abbrev pub cover_answer : Progress → ℕ → List Record → LogAnswer
cover_answer keeper tick queue =
    if keeper.down then answer.Down else answer_of tick (covered keeper tick queue)

-- no job is in work, the taken records were in front, and the switch at this tick comes next
pub record Covers (logs : Logs) (queue : List Record) (tick : ℕ)
    (taken left : List Record) : Type 0 where
  pub idle : is_idle logs
  pub in_front : queue ≡ taken ++ left
  pub behind : List Record
  pub next : left ≡ records.Switch tick ∷ behind

-- the effect of a cover, by its answer
abbrev pub CoverStep : Logs → List Record → ℕ → LogAnswer → List Record → Type 0
CoverStep logs queue tick answer.Idle left = left ≡ queue
CoverStep logs queue tick answer.Working left =
    (taken : List Record) × Covers logs queue tick taken left × (has_tick taken ≡ false)
CoverStep logs queue tick (answer.Acked number) left =
    (taken : List Record) × Covers logs queue tick taken left
    × (has_tick taken ≡ true) × (number ≡ tick)
CoverStep logs queue tick answer.Down left = left ≡ queue
