-- The effect of a step of one of the three workers.
use Rattle.std.specs.Prelude.{◌≡◌, ◌≢◌, ◌⊎◌, ℕ, ◌<◌, ◌≤◌, true, false, Result}
use Rattle.workers.specs.declared.post.Unplayed.{Unplayed}
use Rattle.disk_model.specs.declared.disk.Disk.{Ghosts}
use Rattle.disk_model.specs.Disk.{OneCalledAtMostOnce}
use Rattle.image_files.specs.declared.phase.Phase.TheVariants.{Taking}
use Rattle.image_files.specs.Progress.{left_of}
use Rattle.action_log.specs.declared.answer.LogAnswer.TheVariants.{Idle}
use Rattle.action_log.specs.Cover.{uncovered, cover_answer}
use Rattle.action_log.specs.Progress.{work_of}
use Rattle.shared_capture.specs.States.{MetBack}
use Rattle.shared_capture.specs.SignalWord.{with_number}
use Rattle.workers.specs.declared.gate.Place.{Place}
use Rattle.workers.specs.declared.gate.Place.TheVariants.{Tick, Device}
use Rattle.workers.specs.declared.gate.Pass.{Pass}
use Rattle.workers.specs.declared.item.Item.{Item}
use Rattle.workers.specs.Posts.{AskedBatch}
use Rattle.workers.specs.Covering.{LoadsOn}
use Rattle.workers.specs.Gates.{MayGo, MayStick}
use Rattle.workers.specs.Mutating.{Playing, OpensNone, OwesSwitch, Plays, Pays, StopsPlay}
use Rattle.workers.specs.Imaging.{Imaging, place_of, HasRound, FindsNone, FindsRound, GoesOn}
use Rattle.workers.specs.Logging.{Logging, Pops, refused as refuses, Settles, receipt_of}
use Rattle.workers.specs.Logging.{Acknowledges, LogReportsFaults, WritesOnly}
use Rattle.worker_steps.specs.Begun.{Started}
use Rattle.worker_steps.specs.declared.next.Next.{Next}
use Rattle.worker_steps.specs.declared.next.Next.TheVariants.{Play, Mark, Push, Stop, Pop}
use Rattle.worker_steps.specs.declared.next.Next.TheVariants.{Log as Write, Image}

-- ---- the mutator

-- the next batch was taken, and run or refused, or there was none
abbrev pub MayPlay : (go stuck : Type 0) → (old new : Playing) → Type 0
MayPlay go stuck old new =
    (new ≡ old)
    ⊎ ((asked : AskedBatch) × (given : Result (Unit {0}) Unplayed)
    × Plays go stuck old asked given new)

-- no round was opened, or one whose switch is owed
abbrev pub MayOpen : (old new : Playing) → Type 0
MayOpen old new = OpensNone old new ⊎ OwesSwitch old new

-- ---- the log writer

-- an item was popped, or none
abbrev pub MayPop : {D : Type 0} → (old new : Logging D) → Type 0
MayPop old new = (new ≡ old) ⊎ ((item : Item) × Pops old item new)

-- A step of the log. It makes at most one call of a device, if the gate lets it, or takes the
-- records that the newest open image has. It posts exactly the ticks that its receipt
-- acknowledges. The log goes down only by a failed call, or by its gate, and then each answer that
-- waits is refused.
pub record LogSteps {D : Type 0} (disk : Ghosts D) (go stuck : Type 0)
    (old new : Logging D) : Type 0 where
  pub same : WritesOnly old new
  pub loads : LoadsOn old.covers new.covers
  pub word : new.reported_down.pair ≡ old.reported_down.pair
  pub covered : new.down ≡ false → (tick : ℕ) × (new.covers ≡ with_number old.covers tick)
      × (cover_answer old.log.keeper tick old.ring.items ≢ Idle
      → (new.log ≡ old.log) × (new.ring.items ≡ uncovered old.log.keeper tick old.ring.items))
  pub acked : old.acked ≤ new.acked
  pub posts : new.down ≡ false → (tick : ℕ) × (new.covers ≡ with_number old.covers tick)
      × Acknowledges (receipt_of old.log.keeper tick old.ring.items new.log.keeper) old new
  pub lowers : new.down ≡ false
      → work_of new.log.keeper new.ring.items < work_of old.log.keeper old.ring.items
  pub failures : LogReportsFaults disk.faults old.log new.log
  pub asks : (new.log ≡ old.log) ⊎ go
  pub calls : OneCalledAtMostOnce disk.called old.log.a new.log.a old.log.b new.log.b
  pub cause : new.down ≡ true → (new.log.keeper.down ≡ true) ⊎ ((new.log ≡ old.log) × stuck)
  pub refused : new.down ≡ true → (new.acked ≡ old.acked) × (new.answers ≡ refuses old.answers)

-- The log stays down. Or a step is made, if work is left. Or no work is left, and no
-- answer waits any more.
abbrev pub LogGoes : {D G : Type 0} → (gate : G → Place → Pass → G → Type 0)
    → Ghosts D → (old new : Logging D) → Type 0
LogGoes gate disk old new =
    ((old.down ≡ true) × (new ≡ old))
    ⊎ (((old.down ≡ false) × (0 < work_of old.log.keeper old.ring.items)
    × LogSteps disk (MayGo gate Device) (MayStick gate Device) old new)
    ⊎ ((old.down ≡ false) × (work_of old.log.keeper old.ring.items ≡ 0) × Settles old new))

-- ---- the checkpointer

-- a step of the round in work is a take, or makes at most one call of a device, if the gate lets it
pub record ImageSteps {D : Type 0} (disk : Ghosts D) (go stuck : Type 0)
    (old new : Imaging D) : Type 0 where
  pub goes : GoesOn go stuck disk.faults old new
  pub calls : OneCalledAtMostOnce disk.called old.images.image_a new.images.image_a
      old.images.image_b new.images.image_b
  pub takes : old.images.keeper.phase ≡ Taking
      → (new.images.image_a ≡ old.images.image_a) × (new.images.image_b ≡ old.images.image_b)
  pub less : new.over ≡ false → left_of new.images.keeper < left_of old.images.keeper

-- The checkpointer does nothing once it is over or its round can't continue. Otherwise it looks for
-- a round, or makes a step of the one in work.
abbrev pub ImageGoes : {D G : Type 0} → (gate : G → Place → Pass → G → Type 0)
    → Ghosts D → (old new : Imaging D) → Type 0
ImageGoes gate disk old new =
    ((new ≡ old)
    × ((old.over ≡ true) ⊎ (HasRound old.images.keeper × (left_of old.images.keeper ≡ 0))))
    ⊎ (FindsNone old new ⊎ (((tick : ℕ) × FindsRound old tick new)
    ⊎ ImageSteps disk (MayGo gate (place_of old.images.keeper.phase))
    (MayStick gate (place_of old.images.keeper.phase)) old new))

-- ---- any of them

-- one worker makes the step, and the others stay as they are
abbrev pub Makes : {D A B C : Type 0} → (of_play : A → Place → Pass → A → Type 0)
    → (of_images : B → Place → Pass → B → Type 0) → (of_log : C → Place → Pass → C → Type 0)
    → Ghosts D → Next → (old new : Started D) → Type 0
Makes of_play of_images of_log disk Play old new =
    (new ≡ record old { mutator = new.mutator })
    × MayPlay (MayGo of_play Tick) (MayStick of_play Tick) old.mutator new.mutator
Makes of_play of_images of_log disk Mark old new =
    (new ≡ record old { mutator = new.mutator }) × MayOpen old.mutator new.mutator
Makes of_play of_images of_log disk Push old new =
    (new ≡ record old { mutator = new.mutator }) × Pays old.mutator new.mutator
Makes of_play of_images of_log disk Stop old new =
    (new ≡ record old { mutator = new.mutator }) × StopsPlay old.mutator new.mutator
Makes of_play of_images of_log disk Pop old new =
    (new ≡ record old { log_writer = new.log_writer }) × MayPop old.log_writer new.log_writer
Makes of_play of_images of_log disk Write old new =
    (new ≡ record old { log_writer = new.log_writer })
    × LogGoes of_log disk old.log_writer new.log_writer
Makes of_play of_images of_log disk Image old new =
    (new ≡ record old { checkpointer = new.checkpointer })
    × ImageGoes of_images disk old.checkpointer new.checkpointer

-- a meeting changes only what the two seats know of the phase
pub record Meets {D : Type 0} (old new : Started D) : Type 0 where
  pub mutator : new.mutator ≡ record old.mutator {
    front = record old.mutator.front { closed = new.mutator.front.closed };
  }
  pub checkpointer : new.checkpointer ≡ record old.checkpointer { back = new.checkpointer.back }
  pub back : MetBack old.checkpointer.back new.checkpointer.back
  pub log_writer : new.log_writer ≡ old.log_writer
