-- The effect of each operation on a world.
use Rattle.std.specs.Prelude.{◌≡◌, ◌↔◌, ◌⊎◌, ◌<◌, ℕ, ◌+◌, true, false, IsTrue, List, [], ◌∷◌}
use Rattle.std.specs.Prelude.{◌++◌, length, Ok}
use Rattle.world_actions.specs.declared.action.Action.{Action}
use Rattle.world_actions.specs.Effect.{writes_of}
use Rattle.world_ticks.specs.Tick.{Actions, decision}
use Rattle.world_ticks.specs.After.{after_actions}
use Rattle.capture_core.specs.Content.{content_after, Marks, Takes, Covers}
use Rattle.file_format.specs.declared.slot.Slot.TheVariants.{A}
use Rattle.file_format.specs.Slot.{of_slot}
use Rattle.disk_model.specs.Disk.{Grew}
use Rattle.disk_model.specs.declared.disk.Disk.{Ghosts}
use Rattle.image_files.specs.declared.phase.Phase.TheVariants.{Idle, Down}
use Rattle.image_files.specs.declared.answer.ImageAnswer.{ImageAnswer}
use Rattle.image_files.specs.declared.answer.ImageAnswer.TheVariants as image_answer
use Rattle.image_files.specs.Images.{ImageFiles, StepsImages}
use Rattle.image_files.specs.Progress.{target_of, begun_keeper, opened_keeper, left_of}
use Rattle.image_files.specs.Steps.{IfOpened, OnWorking, CallsIn as ImageCallsIn, HasCause}
use Rattle.action_log.specs.declared.phase.Phase.TheVariants.{Ready, GateSync}
use Rattle.action_log.specs.declared.answer.LogAnswer.{LogAnswer}
use Rattle.action_log.specs.declared.answer.LogAnswer.TheVariants as log_answer
use Rattle.action_log.specs.declared.record.Record.TheVariants as records
use Rattle.action_log.specs.Progress.{work_of, taken}
use Rattle.action_log.specs.Calls.{CallsIn as LogCallsIn}
use Rattle.action_log.specs.Cover.{covered, uncovered, cover_answer, CoverStep}
use Rattle.action_log.specs.Logs.{Logs, LogPlace}
use Rattle.action_log.specs.LogSteps.{is_idle, JournalStep}
use Rattle.engine.specs.World.{World, HasImages, HasLog}

-- an action is done
pub record DoesAction {D : Type 0} (old : World D) (action : Action) (new : World D) : Type 0 where
  pub decided : decision old.content.live old.running action ≡ Ok new.content.live
  pub content : new.content ≡ content_after old.content (writes_of old.content.live action)
  pub rest : new ≡ record old { content = new.content; running = old.running ++ action ∷ [] }
  pub cells : length new.content.live ≡ length old.content.live
  pub covers : (image : List ℕ) → Covers image old.content → Covers image new.content

-- actions of the running tick are done on the store
pub record DoesActions {D : Type 0} (old : World D) (actions : List Action)
    (new : World D) : Type 0 where
  pub rest : new ≡ record old { content = new.content; running = old.running ++ actions }
  pub done : after_actions old.content.live actions ≡ Ok new.content.live
  pub cells : length new.content.live ≡ length old.content.live
  pub left : new.content.left ≡ old.content.left
  pub covers : (image : List ℕ) → Covers image old.content → Covers image new.content

-- the running tick ends, and is queued
abbrev pub EndsTick : {D : Type 0} → (old new : World D) → Type 0
EndsTick old new = (tick : Actions) × (tick.list ≡ old.running)
    × (new ≡ record old {
      running = [];
      ended = old.ended + 1;
      since = old.since + 1;
      queue = old.queue ++ records.Tick tick ∷ [];
    })

-- the store is marked, the round of the ended ticks begins, and their switch is queued
abbrev pub BeginsRound : {D : Type 0} → (old new : World D) → Type 0
BeginsRound old new = Marks old.content new.content
    × (new ≡ record old {
      content = new.content;
      since = 0;
      images = begun_keeper old.ended old.images;
      queue = old.queue ++ records.Switch old.ended ∷ [];
    })

-- the records before the switch at this tick leave the queue
pub record CoversQueue {D : Type 0} (tick : ℕ) (old : World D) (given : LogAnswer)
    (new : World D) : Type 0 where
  pub answer : given ≡ cover_answer old.log tick old.queue
  pub rest : new ≡ record old { queue = new.queue }
  pub left : new.queue ≡ uncovered old.log tick old.queue
  pub front : old.queue ≡ covered old.log tick old.queue ++ new.queue
  pub step : (logs : Logs) → (old.log.phase ≡ Ready → is_idle logs)
      → CoverStep logs old.queue tick given new.queue
  pub lowers : (given ≡ log_answer.Idle)
      ⊎ ((given ≡ log_answer.Down) ⊎ (work_of new.log new.queue < work_of old.log old.queue))

module _ {D : Type 0} (disk : Ghosts D) where
  -- a step of the image keeper: it takes a cell, or makes at most one call of a device
  pub record TakesImageStep (old : World D) (given : ImageAnswer) (new : World D) : Type 0 where
    pub rest : new ≡ record old {
      content = new.content;
      images = new.images;
      files = record old.files { image_a = new.files.image_a; image_b = new.files.image_b };
    }
    pub stands : IsTrue disk.honest → (images : ImageFiles) → HasImages disk old images
        → (next : ImageFiles) × HasImages disk new next
        × StepsImages Takes old.images.cells images given next old.content new.content
    pub cells : new.images.cells ≡ old.images.cells
    pub live : new.content.live ≡ old.content.live
    pub idle : (given ≡ image_answer.Idle) ↔ (old.images.phase ≡ Idle)
    pub down : (given ≡ image_answer.Down) ↔ (new.images.phase ≡ Down)
    pub stays_down : old.images.phase ≡ Down → given ≡ image_answer.Down
    pub goes_on : OnWorking given (new.images.phase ≡ Idle → ⊥)
    pub ended : IfOpened given (new.images ≡ opened_keeper old.images)
        ((new.images.tick ≡ old.images.tick) × (new.images.newest ≡ old.images.newest))
    pub cause : HasCause given old.images.phase
        (disk.faults old.files.image_a) (disk.faults new.files.image_a)
        (disk.faults old.files.image_b) (disk.faults new.files.image_b)
    -- The phase decides: no file is called, or one file once, either the one that the round writes
    -- or the newest image's.
    pub calls : ImageCallsIn old.images.phase disk.called
        (of_slot (target_of old.images.newest) old.files.image_a old.files.image_b)
        (of_slot (target_of old.images.newest) new.files.image_a new.files.image_b)
        (of_slot (target_of old.images.newest) old.files.image_b old.files.image_a)
        (of_slot (target_of old.images.newest) new.files.image_b new.files.image_a)
    pub lowers : 0 < left_of old.images → left_of new.images < left_of old.images

  -- a step of the log keeper: it makes at most one call of a device
  pub record TakesLogStep (old : World D) (given : LogAnswer) (new : World D) : Type 0 where
    pub rest : new ≡ record old {
      queue = new.queue;
      log = new.log;
      files = record old.files { log_a = new.files.log_a; log_b = new.files.log_b };
    }
    pub front : old.queue ≡ taken old.log old.queue ++ new.queue
    pub stands : IsTrue disk.honest → (place : LogPlace) → HasLog disk old place
        → (next : LogPlace) × HasLog disk new next
        × JournalStep place old.queue given next new.queue
    pub idle : (given ≡ log_answer.Idle)
        ↔ ((old.log.down ≡ false) × (old.log.phase ≡ Ready) × (old.queue ≡ []))
    pub receipt : (tick : ℕ) → (given ≡ log_answer.Acked tick)
        ↔ ((old.log.phase ≡ GateSync) × (old.log.down ≡ false) × (new.log.down ≡ false)
        × (tick ≡ new.log.base + new.log.count))
    pub down : (given ≡ log_answer.Down) ↔ (new.log.down ≡ true)
    pub rests : (given ≡ log_answer.Idle) ⊎ (old.log.down ≡ true) → (new.log ≡ old.log)
        × (new.queue ≡ old.queue) × (new.files.log_a ≡ old.files.log_a)
        × (new.files.log_b ≡ old.files.log_b)
    -- The phase and the record in front decide: no file is called, or one file once, either the
    -- current segment's or the other one.
    pub calls : old.log.down ≡ false → LogCallsIn disk.called
        (of_slot old.log.current old.files.log_a old.files.log_b)
        (of_slot old.log.current new.files.log_a new.files.log_b)
        (of_slot old.log.current old.files.log_b old.files.log_a)
        (of_slot old.log.current new.files.log_b new.files.log_a) old.log.phase old.queue
    pub cause : given ≡ log_answer.Down → (old.log.down ≡ true)
        ⊎ (Grew (disk.faults old.files.log_a) (disk.faults new.files.log_a)
        ⊎ Grew (disk.faults old.files.log_b) (disk.faults new.files.log_b))
    pub no_fault : new.log.down ≡ false
        → (disk.faults new.files.log_a ≡ disk.faults old.files.log_a)
        × (disk.faults new.files.log_b ≡ disk.faults old.files.log_b)
    pub lowers : new.log.down ≡ false → 0 < work_of old.log old.queue
        → work_of new.log new.queue < work_of old.log old.queue
    pub started : old.log.starting ≡ false → new.log.starting ≡ false
    pub first : old.log.starting ≡ true
        → (new.log.starting ≡ true) ⊎ ((new.log.current ≡ A) × (new.log.phase ≡ Ready))
