-- The effect of each move on the state of a core.
use Rattle.std.specs.Prelude.{◌≡◌, ◌⊎◌, Bool, true, false, ◌&&◌}
use Rattle.image_files.specs.declared.answer.ImageAnswer.{ImageAnswer}
use Rattle.action_log.specs.declared.answer.LogAnswer.{LogAnswer}
use Rattle.action_log.specs.declared.answer.LogAnswer.TheVariants as log_answer
use Rattle.world_core.specs.declared.moves.Fate.{Fate}
use Rattle.world_core.specs.declared.moves.Fate.TheVariants as fate_
use Rattle.world_core.specs.declared.moves.Move.{Move}
use Rattle.world_core.specs.declared.moves.Move.TheVariants as move
use Rattle.world_core.specs.declared.moves.Answer.{Answer}
use Rattle.world_core.specs.declared.moves.Answer.TheVariants as answer
use Rattle.engine.specs.Fuses.{images_armed, log_armed}
use Rattle.engine.specs.Refusals.{is_in_round}
use Rattle.engine.specs.Steps.{DoesAction, EndsTick, BeginsRound, TakesImageStep, TakesLogStep}
use Rattle.engine.specs.Steps.{CoversQueue}
use Rattle.world_core.specs.State.{State, core_disk}
use Rattle.world_core.specs.Starting.{StandsOn}

abbrev pub is_failed : Fate → Bool
is_failed fate_.Done = false
is_failed fate_.Failed = true

-- A step of a keeper whose two files are armed by the fate. With Done each call is left to the file
-- itself. With Failed the call of the step fails.
abbrev pub StepsImagesBy : Fate → (old : State) → ImageAnswer → (new : State) → Type 0
StepsImagesBy fate old given new =
    TakesImageStep core_disk (images_armed (is_failed fate) old) given new

abbrev pub StepsLogBy : Fate → (old : State) → LogAnswer → (new : State) → Type 0
StepsLogBy fate old given new =
    TakesLogStep core_disk (log_armed (is_failed fate) old) given new

-- the log's part of a start waits for the image
abbrev pub Waits : State → Type 0
Waits state = (state.log.starting && is_in_round state.images.phase) ≡ true

-- The effect of a move on the state, by its answer. A refused move, a read and a Log move that
-- waits change nothing.
abbrev pub Does : Move → (old : State) → Answer → (new : State) → Type 0
Does (move.Act action) old answer.Did new = DoesAction old action new
Does move.End old (answer.Ended tick) new = EndsTick old new
Does move.Mark old (answer.Started tick) new = BeginsRound old new
Does (move.Image fate) old (answer.Image given) new = StepsImagesBy fate old given new
Does (move.Log fate) old (answer.Log given) new =
    (Waits old × (given ≡ log_answer.Idle) × (new ≡ old)) ⊎ StepsLogBy fate old given new
Does (move.Cover tick) old (answer.Log given) new = CoversQueue tick old given new
Does (move.Crash left) old (answer.Recovered tick from) new =
    StandsOn old.images.cells left.image_a.items left.image_b.items left.log_a.items
    left.log_b.items
    (answer.Recovered tick from) new
Does (move.Crash left) old answer.Blank new =
    StandsOn old.images.cells left.image_a.items left.image_b.items left.log_a.items
    left.log_b.items answer.Blank new
Does asked old given new = new ≡ old
