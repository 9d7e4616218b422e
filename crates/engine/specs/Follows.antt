-- A world that follows its ticks, and the definition of sound files.
use Rattle.std.specs.Prelude.{◌≡◌, ◌≤◌, ℕ, List, [], length, Ok}
use Rattle.world_actions.specs.declared.action.Action.{Action}
use Rattle.world_ticks.specs.After.{after_actions, after_ticks}
use Rattle.disk_model.specs.declared.four_files.FourFiles.{FourFiles}
use Rattle.disk_model.specs.declared.disk.Disk.{Ghosts}
use Rattle.image_files.specs.Images.{ImageFiles}
use Rattle.action_log.specs.Logs.{Journal, InStart, Writing, LogPlace}
use Rattle.recovery.specs.Sound.{IsSound}
use Rattle.restart.specs.InStep.{InStep}
use Rattle.engine.specs.World.{World, HasImages, HasLog}

-- in a start no tick is running
abbrev pub NoneInStart : Journal → (running : List Action) → Type 0
NoneInStart (InStart start) running = running ≡ []
NoneInStart (Writing logs) running = Unit {0}

module _ {D : Type 0} (disk : Ghosts D) where
  -- From these first words these ticks have ended, and the words are those after them and the
  -- running one. So many ticks at least are acknowledged. Store, keepers, queue and files are
  -- in step with them.
  pub record Follows (world : World D) (first : List ℕ) (ticks : List (List Action))
      (acknowledged : ℕ) : Type 0 where
    pub images : ImageFiles
    pub place : LogPlace
    pub has_images : HasImages disk world images
    pub has_log : HasLog disk world place
    pub cells : world.images.cells ≡ length first
    pub last : List ℕ
    pub after_ended : after_ticks first ticks ≡ Ok last
    pub live : after_actions last world.running ≡ Ok world.content.live
    pub at_rest : NoneInStart place.journal world.running
    pub ended : world.ended ≡ length ticks
    pub count : ℕ
    pub at_least : acknowledged ≤ count
    pub in_step : InStep first ticks count world.content images place.journal world.queue

  -- a world follows the ticks that it followed before
  abbrev pub StillFollows : (old new : World D) → Type 0
  StillFollows old new =
      (first : List ℕ) (ticks : List (List Action)) (acknowledged : ℕ)
      → Follows old first ticks acknowledged → Follows new first ticks acknowledged

  -- Whatever a crash leaves of the files, recovery gives the world after the first n of these ticks
  -- from these first words, for some n not below the acknowledged count. Each open image is the
  -- world after its tick.
  abbrev pub AreSound : FourFiles D → (first : List ℕ) → List (List Action)
      → (acknowledged : ℕ) → Type 0
  AreSound files first ticks acknowledged =
      IsSound (disk.may_leave files.image_a) (disk.may_leave files.image_b)
      (disk.may_leave files.log_a) (disk.may_leave files.log_b) first ticks acknowledged
