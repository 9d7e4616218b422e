-- The state of core and keepers as far as moves and their answers show it, and the
-- refusal that holds.
use Rattle.std.specs.Prelude.{ℕ, ◌+◌, ◌-◌, List, [], ◌∷◌, ◌++◌, Bool, true, false}
use Rattle.std.specs.Prelude.{nat_lt, nat_le, ◌&&◌, Option, Some, None, is_some, Result, Ok}
use Rattle.std.specs.Prelude.{Err, slice_index, if◌then◌else◌}
use Rattle.world_actions.specs.declared.action.Action.{Action}
use Rattle.world_actions.specs.declared.refusal.Refusal.{Refusal}
use Rattle.world_actions.specs.declared.refusal.Refusal.TheVariants.{BadCell, QueueFull}
use Rattle.world_actions.specs.Effect.{is_outside}
use Rattle.action_log.specs.declared.record.Record.{Record}
use Rattle.action_log.specs.declared.record.Record.TheVariants as record_
use Rattle.action_log.specs.declared.answer.LogAnswer.TheVariants as log_answer
use Rattle.action_log.specs.Logs.{start_moves}
use Rattle.image_files.specs.declared.answer.ImageAnswer.TheVariants as image_answer
use Rattle.restart.specs.Start.{is_shut}
use Rattle.restart.specs.declared.start.TheConstants.{QUEUE_RECORDS}
use Rattle.engine.specs.Refusals.{mark_refusal, cover_refusal}
use Rattle.world_core.specs.declared.moves.Move.{Move}
use Rattle.world_core.specs.declared.moves.Move.TheVariants as move
use Rattle.world_core.specs.declared.moves.Answer.{Answer}
use Rattle.world_core.specs.declared.moves.Answer.TheVariants as answer

-- what is queued for the log: the actions of a tick, or the tick of a mark
pub data Queued : Type 0 where
  QueuedTick : List Action → Queued
  QueuedSwitch : ℕ → Queued

abbrev pub queued_of : Record → Queued
queued_of (record_.Tick tick) = QueuedTick tick.list
queued_of (record_.Switch tick) = QueuedSwitch tick

-- The tick of the newest image, 0 before the first. The tick of the open round. Which keeper is
-- down. How many Log moves the start has left. How many ticks ended since the last mark or start.
-- The records of the ends and marks since the start.
pub record Standing : Type 0 where
  pub newest : ℕ
  pub round : Option ℕ
  pub is_image_down : Bool
  pub is_log_down : Bool
  pub start_left : ℕ
  pub since : ℕ
  pub records : List Queued

-- the round of a start, if it has one
abbrev pub start_round : (has_round : Bool) → (tick : ℕ) → Option ℕ
start_round true tick = Some tick
start_round false tick = None

-- The beginning of a start at the tick `tick`, from the image of the tick `from`. The last two
-- flags say which log segments are shut.
abbrev pub standing_at : (from tick : ℕ) → (has_round shut_a shut_b : Bool) → Standing
standing_at from tick has_round shut_a shut_b = record {
  newest = from;
  round = start_round has_round tick;
  is_image_down = false;
  is_log_down = false;
  start_left = start_moves shut_a shut_b;
  since = 0;
  records = [];
}

-- after a move and its answer, if this was the running tick
abbrev pub standing_after : Standing → (running : List Action) → Move → Answer → Standing
standing_after standing running move.End (answer.Ended tick) = record standing {
  since = standing.since + 1;
  records = standing.records ++ QueuedTick running ∷ [];
}
standing_after standing running move.Mark (answer.Started tick) = record standing {
  round = Some tick;
  since = 0;
  records = standing.records ++ QueuedSwitch tick ∷ [];
}
standing_after standing running (move.Image fate) (answer.Image (image_answer.Opened tick)) =
    record standing { newest = tick; round = None }
standing_after standing running (move.Image fate) (answer.Image image_answer.Down) =
    record standing { is_image_down = true }
standing_after standing running (move.Log fate) (answer.Log log_answer.Working) =
    record standing { start_left = standing.start_left - 1 }
standing_after standing running (move.Log fate) (answer.Log log_answer.Down) =
    record standing { is_log_down = true }
standing_after standing running (move.Crash left) (answer.Recovered tick from) =
    standing_at from tick (nat_lt from tick) (is_shut left.log_a.items) (is_shut left.log_b.items)
standing_after standing running (move.Crash left) answer.Blank =
    standing_at 0 0 true (is_shut left.log_a.items) (is_shut left.log_b.items)
standing_after standing running asked given = standing

-- the start lasts
abbrev pub is_starting : Standing → Bool
is_starting standing = nat_lt 0 standing.start_left

-- a round is open
abbrev pub is_round_open : Standing → Bool
is_round_open standing = is_some standing.round

-- the start's Log moves wait for its image
abbrev pub is_log_waiting : Standing → Bool
is_log_waiting standing = is_starting standing && is_round_open standing

-- ---- refusals

-- an answer, unless this refusal holds
abbrev pub unless_refused : Option Refusal → Answer → Answer
unless_refused None given = given
unless_refused (Some refusal) given = answer.Refused refusal

-- the answer to an action by the decision on it, unless memory runs out
abbrev pub action_answer : Result (List ℕ) Refusal → Answer
action_answer (Ok words) = answer.Did
action_answer (Err refusal) = answer.Refused refusal

abbrev pub get_answer : (words : List ℕ) → (cell : ℕ) → Answer
get_answer words cell =
    if is_outside words cell then answer.Refused BadCell else answer.Word (slice_index words cell)

abbrev pub end_answer : Option Refusal → (ended queued : ℕ) → Answer
end_answer refusal ended queued =
    unless_refused refusal
    (if nat_le QUEUE_RECORDS queued then answer.Refused QueueFull else answer.Ended (ended + 1))

-- the refusals by the state of core and keepers
abbrev pub mark_refusal_at : Standing → (ended queued : ℕ)
    → (running : List Action) → Option Refusal
mark_refusal_at standing ended queued running =
    mark_refusal (is_starting standing) standing.is_log_down standing.is_image_down
    (is_round_open standing) ended standing.newest queued running

abbrev pub cover_refusal_at : Standing → (tick : ℕ) → Option Refusal
cover_refusal_at standing tick =
    cover_refusal (is_starting standing) standing.is_log_down standing.newest tick
