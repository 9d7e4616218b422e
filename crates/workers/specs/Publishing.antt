-- The reports of the checkpointer to the log writer: the tick of each image, once the
-- image is open.
use Rattle.std.specs.Prelude.{◌≡◌, ◌⊎◌, ℕ, ◌<◌, ◌≤◌, All, List, map, Option, Some}
use Rattle.std.specs.Prelude.{slice_get}
use Rattle.world_ticks.specs.declared.tick.TheConstants.{TICK_MAX}
use Rattle.file_format.specs.declared.slot.Slot.{Slot}
use Rattle.image_files.specs.Progress.{newest_tick}
use Rattle.shared_capture.specs.SignalWord.{SignalState}
use Rattle.shared_capture.specs.declared.view.Snapshot.{Snapshot}

-- no image is made of this tick: there is no such tick, or the newest image isn't older
abbrev pub IsNoneDue : Option (Slot × ℕ) → ℕ → Type 0
IsNoneDue newest tick = (TICK_MAX < tick) ⊎ (tick ≤ newest_tick newest)

-- the tick may be published: it is that of a round, and newer than those before it
pub record IsNext (covers : SignalState) (tick : ℕ) : Type 0 where
  pub some : 1 ≤ tick
  pub newer : (i earlier : ℕ) → slice_get covers.numbers i ≡ Some earlier → earlier < tick

-- the ticks of the rounds that are done were published, each once and in order, and no other; none
-- is newer than the newest image
pub record ArePublished (newest : Option (Slot × ℕ)) (done : List Snapshot)
    (covers : SignalState) : Type 0 where
  pub are : covers.numbers ≡ map (λ (s : Snapshot). s.tick) done
  pub older : All (λ (tick : ℕ). tick ≤ newest_tick newest) covers.numbers
