-- The ticks by moves and their answers: those that ended and no crash lost, the running one, and
-- the acknowledged count.
use Rattle.std.specs.Prelude.{ℕ, max, List, [], ◌∷◌, ◌++◌, take, Bool, true, false, ◌||◌}
use Rattle.world_actions.specs.declared.action.Action.{Action}
use Rattle.action_log.specs.declared.answer.LogAnswer.TheVariants as log_answer
use Rattle.image_files.specs.declared.answer.ImageAnswer.TheVariants as image_answer
use Rattle.world_core.specs.declared.moves.Move.{Move}
use Rattle.world_core.specs.declared.moves.Move.TheVariants as move
use Rattle.world_core.specs.declared.moves.Answer.{Answer}
use Rattle.world_core.specs.declared.moves.Answer.TheVariants as answer

-- the ended ticks in order, and the running one
pub record History : Type 0 where
  pub ticks : List (List Action)
  pub running : List Action

-- a history in which nothing has happened
abbrev pub no_history : History
no_history = record { ticks = []; running = [] }

-- The history after a move and its answer. A recovery keeps the first ticks. A crash that leaves no
-- image keeps none.
abbrev pub history_after : History → Move → Answer → History
history_after history (move.Act action) answer.Did =
    record history { running = history.running ++ action ∷ [] }
history_after history move.End (answer.Ended tick) =
    record { ticks = history.ticks ++ history.running ∷ []; running = [] }
history_after history (move.Crash left) (answer.Recovered tick from) =
    record { ticks = take tick history.ticks; running = [] }
history_after history (move.Crash left) answer.Blank = no_history
history_after history asked given = history

-- the history after moves and their answers, one after another
abbrev pub history_of : History → List Move → List Answer → History
history_of history [] answers = history
history_of history (asked ∷ moves) [] = history
history_of history (asked ∷ moves) (given ∷ answers) =
    history_of (history_after history asked given) moves answers

-- the ticks that ended and that no crash lost
abbrev pub ended : List Move → List Answer → List (List Action)
ended moves answers = (history_of no_history moves answers).ticks

-- the greatest acknowledged tick: that of a receipt, or of an image that an answer said to be open
abbrev pub acknowledged_after : ℕ → Answer → ℕ
acknowledged_after acknowledged (answer.Image (image_answer.Opened tick)) = max acknowledged tick
acknowledged_after acknowledged (answer.Log (log_answer.Acked tick)) = max acknowledged tick
acknowledged_after acknowledged given = acknowledged

abbrev pub acknowledged_of : ℕ → List Answer → ℕ
acknowledged_of acknowledged [] = acknowledged
acknowledged_of acknowledged (given ∷ answers) =
    acknowledged_of (acknowledged_after acknowledged given) answers

abbrev pub acked : List Answer → ℕ
acked answers = acknowledged_of 0 answers

-- the answer shows that an image is open and durable: Opened, or Recovered after a crash
abbrev pub opens : Answer → Bool
opens (answer.Image (image_answer.Opened tick)) = true
opens (answer.Recovered tick from) = true
opens given = false

abbrev pub opened_of : Bool → List Answer → Bool
opened_of before [] = before
opened_of before (given ∷ answers) = opened_of (opens given || before) answers

abbrev pub has_opened : List Answer → Bool
has_opened answers = opened_of false answers
