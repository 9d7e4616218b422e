-- A world at rest, taken apart.
use Rattle.std.specs.Prelude.{◌≡◌, ◌≤◌, ◌⊎◌, ℕ, ◌+◌, false, IsTrue, List, All, length}
use Rattle.world_actions.specs.World.{IsWord}
use Rattle.world_actions.specs.declared.action.Action.{Action}
use Rattle.disk_model.specs.declared.disk.Disk.{Ghosts}
use Rattle.world_ticks.specs.declared.tick.TheConstants.{TICK_MAX}
use Rattle.image_files.specs.declared.phase.Phase.TheVariants.{Idle, Down}
use Rattle.image_files.specs.Images.{Images, Newest}
use Rattle.image_files.specs.Files.{FitsFiles as ImagesFit, DisksStand as ImageDisksStand}
use Rattle.action_log.specs.declared.phase.Phase.TheVariants.{Ready}
use Rattle.action_log.specs.declared.progress.Progress.{Progress as LogProgress}
use Rattle.action_log.specs.Files.{FitsFiles as LogFits}
use Rattle.action_log.specs.Logs.{Logs, Writing}
use Rattle.action_log.specs.Stands.{DisksStand as LogDisksStand}
use Rattle.restart.specs.InStep.{IsSettled}
use Rattle.engine.specs.declared.engine.parts.Parts.{Parts}

-- the log keeper may take the ticks after the ended ones
pub record LogIsReady (log : LogProgress) (ended since : ℕ) : Type 0 where
  pub ready : log.phase ≡ Ready
  pub count : log.count ≡ since
  pub all : log.base + since ≡ ended

module _ {D : Type 0} (disk : Ghosts D) where
  -- The start is over, and neither keeper has work left, unless it is down. They fit the words, and
  -- the files too if those keep to the disk model.
  pub record AreAtRest (parts : Parts D) : Type 0 where
    pub words : All IsWord parts.words.items
    pub cells : parts.images.cells ≡ length parts.words.items
    pub images_fit : IsTrue disk.honest
        → ImagesFit parts.images (disk.content parts.files.image_a)
        (disk.content parts.files.image_b)
    pub images_over : (parts.images.phase ≡ Idle) ⊎ (parts.images.phase ≡ Down)
    pub log_fits : IsTrue disk.honest
        → LogFits parts.log (disk.content parts.files.log_a) (disk.content parts.files.log_b)
    pub started : parts.log.starting ≡ false
    pub log_ready : parts.log.down ≡ false → LogIsReady parts.log parts.ended parts.since
    pub within : parts.since ≤ parts.ended
    pub most : parts.ended ≤ TICK_MAX

  -- From these first words these ticks have ended, and the parts hold a world at rest after them.
  -- Both keepers with their files represent it.
  pub record AreSettled (parts : Parts D) (first : List ℕ)
      (ticks : List (List Action)) : Type 0 where
    pub cells : parts.images.cells ≡ length first
    pub images : Images
    pub logs : Logs
    pub settled : IsSettled first ticks parts.words.items images logs
    pub has_images : ImageDisksStand disk parts.images (Newest images) parts.files.image_a
        parts.files.image_b
    pub has_log : LogDisksStand disk parts.log parts.files.log_a parts.files.log_b
        (record { journal = Writing logs; left = 0 })
    pub ended : parts.ended ≡ length ticks
