-- The answer to each move. It follows from the moves and answers before it, and from the
-- state of the core.
use Rattle.std.specs.Prelude.{◌<◌, ◌≡◌, ◌≢◌, ◌⊎◌, ℕ, ◌+◌, List, length, true, false, Option, Some}
use Rattle.std.specs.Prelude.{None, Ok, Err, IsOk}
use Rattle.world_actions.specs.declared.action.Action.{Action}
use Rattle.world_actions.specs.declared.refusal.Refusal.{Refusal}
use Rattle.world_actions.specs.declared.refusal.Refusal.TheVariants.{NoMemory, NoImage, Impossible}
use Rattle.disk_model.specs.FileState.{FileState}
use Rattle.disk_model.specs.CrashOutcome.{IsCrashOutcome}
use Rattle.disk_model.specs.declared.four_files.FourFiles.{FourFiles}
use Rattle.recovery.specs.Recovery.{Recovery, Recovers}
use Rattle.recovery.specs.Events.{ticks_in}
use Rattle.world_ticks.specs.Tick.{decision}
use Rattle.world_core.specs.declared.moves.Move.{Move}
use Rattle.world_core.specs.declared.moves.Move.TheVariants as move
use Rattle.world_core.specs.declared.moves.Answer.{Answer}
use Rattle.world_core.specs.declared.moves.Answer.TheVariants as answer
use Rattle.image_files.specs.declared.answer.ImageAnswer.{ImageAnswer}
use Rattle.image_files.specs.declared.answer.ImageAnswer.TheVariants as image_answer
use Rattle.image_files.specs.Progress.{left_of}
use Rattle.action_log.specs.declared.answer.LogAnswer.{LogAnswer}
use Rattle.action_log.specs.declared.answer.LogAnswer.TheVariants as log_answer
use Rattle.action_log.specs.Progress.{work_of}
use Rattle.action_log.specs.Cover.{uncovered, cover_answer}
use Rattle.world_core.specs.Standing.{Standing, is_starting, is_round_open, is_log_waiting}
use Rattle.world_core.specs.Standing.{unless_refused, action_answer, get_answer, end_answer}
use Rattle.world_core.specs.Standing.{mark_refusal_at, cover_refusal_at}
use Rattle.engine.specs.Refusals.{tick_refusal}
use Rattle.world_core.specs.Past.{Past}
use Rattle.world_core.specs.State.{State, files_in}

-- the refusal of an action or of the tick's end, if one holds
abbrev pub tick_refusal_in : Past → Option Refusal
tick_refusal_in past =
    tick_refusal (is_starting past.standing) past.standing.is_log_down
    (length past.history.ticks) past.standing.since

-- The answer to an action on these words. NoMemory refuses only an action that would be accepted.
abbrev pub IsActionAnswer : Past → (words : List ℕ) → Action → Answer → Type 0
IsActionAnswer past words action given =
    (given ≢ answer.Refused NoMemory
    → given ≡ unless_refused (tick_refusal_in past)
    (action_answer (decision words past.history.running action)))
    × (given ≡ answer.Refused NoMemory
    → (tick_refusal_in past ≡ None) × IsOk (decision words past.history.running action))

-- a crash may leave these bytes of four files
abbrev pub MayLeave : FourFiles FileState → (image_a image_b log_a log_b : List ℕ) → Type 0
MayLeave files image_a image_b log_a log_b =
    IsCrashOutcome files.image_a image_a × IsCrashOutcome files.image_b image_b
    × IsCrashOutcome files.log_a log_a × IsCrashOutcome files.log_b log_b

-- the answer to a crash that leaves these bytes of four files
abbrev pub IsCrashAnswer : FourFiles FileState
    → (image_a image_b log_a log_b : List ℕ) → Answer → Type 0
IsCrashAnswer files image_a image_b log_a log_b (answer.Refused refusal) =
    ((refusal ≡ Impossible) × ¬ MayLeave files image_a image_b log_a log_b)
    ⊎ ((refusal ≡ NoMemory) × MayLeave files image_a image_b log_a log_b)
IsCrashAnswer files image_a image_b log_a log_b (answer.Recovered tick from) =
    MayLeave files image_a image_b log_a log_b
    × ((r : Recovery) × Recovers image_a image_b log_a log_b (Ok r)
    × (tick ≡ r.tick) × (from ≡ r.from))
IsCrashAnswer files image_a image_b log_a log_b answer.Blank =
    MayLeave files image_a image_b log_a log_b × Recovers image_a image_b log_a log_b (Err NoImage)
IsCrashAnswer files image_a image_b log_a log_b given = ⊥

-- The answer to a step of the image keeper. It is Idle exactly if no round is open, and only Down
-- once the keeper is down. Opened has the tick of the open round.
abbrev pub IsImageAnswer : Standing → ImageAnswer → Type 0
IsImageAnswer standing image_answer.Idle = standing.round ≡ None
IsImageAnswer standing image_answer.Working =
    (is_round_open standing ≡ true) × (standing.is_image_down ≡ false)
IsImageAnswer standing (image_answer.Opened tick) =
    (standing.round ≡ Some tick) × (standing.is_image_down ≡ false)
IsImageAnswer standing image_answer.Down = is_round_open standing ≡ true

-- The answer to a step of the log keeper. It is Idle exactly if the start waits for its
-- image, or the keeper is up and has no work. The tick of a receipt is the last ended one
-- that isn't in the queue.
abbrev pub IsLogAnswer : Past → State → LogAnswer → Type 0
IsLogAnswer past state log_answer.Idle =
    (is_log_waiting past.standing ≡ true)
    ⊎ ((past.standing.is_log_down ≡ false) × (work_of state.log state.queue ≡ 0))
IsLogAnswer past state log_answer.Working =
    (is_log_waiting past.standing ≡ false) × (past.standing.is_log_down ≡ false)
    × (0 < work_of state.log state.queue)
IsLogAnswer past state (log_answer.Acked tick) =
    (is_starting past.standing ≡ false) × (past.standing.is_log_down ≡ false)
    × (0 < work_of state.log state.queue)
    × (tick + length (ticks_in state.queue) ≡ length past.history.ticks)
IsLogAnswer past state log_answer.Down = is_log_waiting past.standing ≡ false

-- The answer to a cover. The tick of a receipt is the covered one, and the last ended one that
-- isn't in the queue after the cover.
pub record IsCoverAnswer (past : Past) (state : State) (tick : ℕ) (given : Answer) : Type 0 where
  pub is : given ≡ unless_refused (cover_refusal_at past.standing tick)
      (answer.Log (cover_answer state.log tick state.queue))
  pub receipt : (number : ℕ) → given ≡ answer.Log (log_answer.Acked number)
      → (number ≡ tick)
      × (number + length (ticks_in (uncovered state.log tick state.queue))
      ≡ length past.history.ticks)

-- the answer to a move; only whether memory runs out is left open
abbrev pub IsExact : Past → State → Move → Answer → Type 0
IsExact past state (move.Act action) given = IsActionAnswer past state.content.live action given
IsExact past state (move.Get cell) given = given ≡ get_answer state.content.live cell
IsExact past state move.End given =
    given ≡ end_answer (tick_refusal_in past) (length past.history.ticks) (length state.queue)
IsExact past state move.Mark given =
    given
    ≡ unless_refused
    (mark_refusal_at past.standing (length past.history.ticks) (length state.queue)
    past.history.running) (answer.Started (length past.history.ticks))
IsExact past state (move.Image fate) (answer.Image given) = IsImageAnswer past.standing given
IsExact past state (move.Image fate) given = ⊥
IsExact past state (move.Log fate) (answer.Log given) = IsLogAnswer past state given
IsExact past state (move.Log fate) given = ⊥
IsExact past state (move.Cover tick) given = IsCoverAnswer past state tick given
IsExact past state (move.Crash left) given =
    IsCrashAnswer (files_in state) left.image_a.items left.image_b.items
    left.log_a.items left.log_b.items given

-- Less work is left after a step in which a keeper works, and after a cover that takes a record.
-- Nothing of the round is left after the step that opens its image.
abbrev pub Progresses : Move → Answer → (old new : State) → Type 0
Progresses (move.Image fate) (answer.Image image_answer.Working) old new =
    left_of new.images < left_of old.images
Progresses (move.Image fate) (answer.Image (image_answer.Opened tick)) old new =
    (left_of new.images ≡ 0) × (0 < left_of old.images)
Progresses (move.Log fate) (answer.Log log_answer.Working) old new =
    work_of new.log new.queue < work_of old.log old.queue
Progresses (move.Log fate) (answer.Log (log_answer.Acked tick)) old new =
    work_of new.log new.queue < work_of old.log old.queue
Progresses (move.Cover tick) (answer.Log log_answer.Working) old new =
    work_of new.log new.queue < work_of old.log old.queue
Progresses (move.Cover tick) (answer.Log (log_answer.Acked number)) old new =
    work_of new.log new.queue < work_of old.log old.queue
Progresses asked given old new = Unit {0}
