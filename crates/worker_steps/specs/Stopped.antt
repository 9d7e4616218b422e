-- The soundness of a world's files, by the ends of its three workers.
use Rattle.std.specs.Prelude.{◌≡◌, ℕ, IsTrue, List, ◌∷◌, ◌++◌, length, max}
use Rattle.world_actions.specs.declared.action.Action.{Action}
use Rattle.image_files.specs.Images.{Images, Newest}
use Rattle.action_log.specs.Logs.{Logs}
use Rattle.recovery.specs.Sound.{IsSound}
use Rattle.recovery.specs.Events.{ticks_in}
use Rattle.restart.specs.InStep.{IsSettled}
use Rattle.workers.specs.declared.item.Item.{Item}
use Rattle.workers.specs.declared.item.Item.TheVariants.{Start}
use Rattle.workers.specs.declared.checkpointer.round.ImageWriter.{ImageWriter}
use Rattle.workers.specs.declared.log_writer.Log.{Log}
use Rattle.worker_steps.specs.declared.opened.Opened.{Opened}
use Rattle.workers.specs.Items.{records_of}
use Rattle.workers.specs.AskOrder.{PlaysInTurn}
use Rattle.workers.specs.Mutating.{Playing, IsMutator}
use Rattle.workers.specs.Worlds.{History}
use Rattle.workers.specs.Logging.{Logging, IsLogging, LogStands}
use Rattle.image_files.specs.Progress.{newest_tick}
use Rattle.workers.specs.Imaging.{Imaging, IsCheckpointer, ImagesStand}
use Rattle.disk_model.specs.declared.disk.Disk.{Ghosts}
use Rattle.workers.specs.Meeting.{HaveMet}

-- ---- the world with which the workers began

-- From these first words, after these ticks, the files hold a world at rest with these words. Both
-- keepers with their files represent it.
pub record WorldStands {D : Type 0} (disk : Ghosts D) (first : List ℕ) (ticks : List (List Action))
    (words : List ℕ) (writer : ImageWriter D) (log : Log D) : Type 0 where
  pub images : Images
  pub logs : Logs
  pub settled : IsSettled first ticks words images logs
  pub cells_are : writer.keeper.cells ≡ length first
  pub has_images : ImagesStand disk writer (Newest images)
  pub has_log : LogStands disk log logs

-- ---- the workers at their stop

-- The pushed items state what was played: each tick is its own ask's batch, run in the words after
-- the items before it, and has that batch's accepted actions and its answer. Each session's batches
-- were taken in its order, none left out, and played at most once.
pub record HasPlayed (m : Playing) : Type 0 where
  pub history : History m.opening m.to.items m.stopped m.front
  pub in_turn : PlaysInTurn m.asks.taken m.to.items

-- the first item is the start at this tick
abbrev pub BeginAt : ℕ → List Item → Type 0
BeginAt tick items = (more : List Item) × (items ≡ Start tick ∷ more)

-- the greatest tick of a receipt, or of an image that was opened
abbrev pub acknowledged_by : {D : Type 0} → Imaging D → Logging D → ℕ
acknowledged_by c w = max w.acked (newest_tick c.images.keeper.newest)

module _ {D : Type 0} (disk : Ghosts D) where
  -- All ticks are these, followed by those that the mutator pushed. Whatever a crash leaves of
  -- the four files, recovery gives the world after the first n of them, for some n not below
  -- the greatest acknowledged tick. Each open image is the world after its tick. The mutator
  -- counts as many ticks.
  abbrev pub LeaveSound : (first : List ℕ) → (ticks : List (List Action)) → Playing
      → Imaging D → Logging D → Type 0
  LeaveSound first ticks m c w =
      let all : List (List Action) = ticks ++ ticks_in (records_of m.to.items) in
      IsSound (disk.may_leave c.images.image_a) (disk.may_leave c.images.image_b)
      (disk.may_leave w.log.a) (disk.may_leave w.log.b)
      first all (acknowledged_by c w) × (m.ended ≡ length all)

  -- the files are sound, if these workers began with a world in their files and the first
  -- item is its start
  abbrev pub AreSound : Playing → Imaging D → Logging D → Type 0
  AreSound m c w =
      (first : List ℕ) (ticks : List (List Action))
      → WorldStands disk first ticks m.opening c.opening w.opening
      → BeginAt (length ticks) m.to.items
      → LeaveSound first ticks m c w

  -- If the workers began with this world in their files, after these ticks, the files are sound for
  -- those ticks and all that were played.
  abbrev pub StaysSound : {M : Type 0} → Opened M D → Playing → Imaging D → Logging D → Type 0
  StaysSound world m c w =
      (first : List ℕ) (ticks : List (List Action))
      → WorldStands disk first ticks world.front.live world.images world.log
      → world.ended ≡ length ticks → LeaveSound first ticks m c w

  -- the files of workers that have met are sound, on disks that keep to the disk model
  abbrev pub StopsAreSound : Type 0
  StopsAreSound =
      (m : Playing) (c : Imaging D) (w : Logging D)
      → IsTrue disk.honest → IsMutator m → IsCheckpointer disk c
      → IsLogging disk w → HaveMet m c w → AreSound m c w
