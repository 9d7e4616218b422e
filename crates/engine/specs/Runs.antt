-- Steps of a keeper until it has nothing left to do, or is down.
use Rattle.std.specs.Prelude.{◌≡◌, ◌⊎◌, ◌<◌, ℕ, true, false, IsTrue, Some, None}
use Rattle.std.specs.Prelude.{List, [], length, slice_index}
use Rattle.file_format.specs.declared.slot.Slot.{Slot}
use Rattle.file_format.specs.declared.slot.Slot.TheVariants.{A}
use Rattle.disk_model.specs.Disk.{Grew}
use Rattle.disk_model.specs.declared.disk.Disk.{Ghosts}
use Rattle.disk_model.specs.FourFiles.{EachFile, StaysFilled}
use Rattle.image_files.specs.declared.phase.Phase.TheVariants.{Idle, Down}
use Rattle.image_files.specs.Progress.{Progress as ImageProgress}
use Rattle.action_log.specs.declared.phase.Phase.TheVariants.{Ready}
use Rattle.action_log.specs.declared.record.Record.{Record}
use Rattle.action_log.specs.declared.progress.Progress.{Progress as LogProgress}
use Rattle.engine.specs.World.{World}
use Rattle.engine.specs.Follows.{StillFollows}

-- there is an image
abbrev pub HasNewest : ImageProgress → Type 0
HasNewest keeper = keeper.newest ≡ None → ⊥

-- A round in work keeps its tick. Once the round is over, its image is the newest one.
pub record RoundTick (old new : ImageProgress) : Type 0 where
  pub in_work : (new.phase ≡ Idle → ⊥) → new.tick ≡ old.tick
  pub over : new.phase ≡ Idle
      → (old.phase ≡ Idle) ⊎ ((slot : Slot) × (new.newest ≡ Some (slot, old.tick)))
  pub newest : HasNewest old → HasNewest new

-- The counts of faults of two files, over a run of a keeper that was up. It is up and neither count
-- grew, or it is down and one did.
abbrev pub RunFaults : (was_up is_up is_down : Type 0) → (a now_a b now_b : ℕ) → Type 0
RunFaults was_up is_up is_down a now_a b now_b =
    was_up → (is_up × (now_a ≡ a) × (now_b ≡ b)) ⊎ (is_down × (Grew a now_a ⊎ Grew b now_b))

-- one of these counts of faults grew, except at its last value
abbrev pub SomeGrew : List ℕ → List ℕ → Type 0
SomeGrew old new =
    (place : ℕ) × (place < length old) × Grew (slice_index old place) (slice_index new place)

-- nothing is queued, and the log is in its start, or writes to log.a and has no job in work
abbrev pub IsFirst : LogProgress → List Record → Type 0
IsFirst keeper queue =
    (queue ≡ []) × ((keeper.starting ≡ true) ⊎ ((keeper.current ≡ A) × (keeper.phase ≡ Ready)))

module _ {D : Type 0} (disk : Ghosts D) where
  -- the image keeper made steps
  pub record RunsImages (old new : World D) : Type 0 where
    pub rest : new ≡ record old {
      content = new.content;
      images = new.images;
      files = record old.files { image_a = new.files.image_a; image_b = new.files.image_b };
    }
    pub cells : new.images.cells ≡ old.images.cells
    pub live : new.content.live ≡ old.content.live
    pub ticks : RoundTick old.images new.images
    pub counts : RunFaults (old.images.phase ≡ Down → ⊥) (new.images.phase ≡ Down → ⊥)
        (new.images.phase ≡ Down) (disk.faults old.files.image_a) (disk.faults new.files.image_a)
        (disk.faults old.files.image_b) (disk.faults new.files.image_b)
    pub follows : IsTrue disk.honest → StillFollows disk old new
    pub filled : IsTrue disk.honest → EachFile old.files new.files (StaysFilled disk)

  -- the log keeper made steps; that of a start waits for its image
  pub record RunsLog (old new : World D) : Type 0 where
    pub rest : new ≡ record old {
      queue = new.queue;
      log = new.log;
      files = record old.files { log_a = new.files.log_a; log_b = new.files.log_b };
    }
    pub started : old.log.starting ≡ false → new.log.starting ≡ false
    pub first : old.log.starting ≡ true → old.queue ≡ [] → IsFirst new.log new.queue
    pub counts : RunFaults (old.log.down ≡ false) (new.log.down ≡ false) (new.log.down ≡ true)
        (disk.faults old.files.log_a) (disk.faults new.files.log_a)
        (disk.faults old.files.log_b) (disk.faults new.files.log_b)
    pub follows : IsTrue disk.honest → (old.log.starting ≡ false) ⊎ (old.images.phase ≡ Idle)
        → StillFollows disk old new
    pub filled : IsTrue disk.honest → EachFile old.files new.files (StaysFilled disk)
