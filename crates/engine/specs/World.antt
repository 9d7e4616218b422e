-- A world in memory with its four files, as contracts see it.
use Rattle.std.specs.Prelude.{◌≡◌, ◌≤◌, ◌⊎◌, ℕ, ◌+◌, ◌-◌, true, false, IsTrue, List, []}
use Rattle.std.specs.Prelude.{length}
use Rattle.world_actions.specs.declared.action.Action.{Action}
use Rattle.world_ticks.specs.declared.tick.TheConstants.{TICK_MAX}
use Rattle.capture_core.specs.Content.{Content}
use Rattle.disk_model.specs.declared.four_files.FourFiles.{FourFiles}
use Rattle.disk_model.specs.declared.disk.Disk.{Ghosts}
use Rattle.image_files.specs.declared.phase.Phase.TheVariants.{Idle, Down}
use Rattle.image_files.specs.Images.{ImageFiles}
use Rattle.image_files.specs.Progress.{Progress as ImageProgress, cells_taken}
use Rattle.image_files.specs.Files.{DisksStand as ImageDisksStand, FitsFiles as ImagesFit}
use Rattle.action_log.specs.declared.record.Record.{Record}
use Rattle.action_log.specs.declared.progress.Progress.{Progress as LogProgress}
use Rattle.action_log.specs.Files.{FitsFiles as LogFits}
use Rattle.action_log.specs.Logs.{LogPlace}
use Rattle.action_log.specs.Progress.{QueueFollows, end_of, work_of}
use Rattle.action_log.specs.Stands.{DisksStand as LogDisksStand}

-- The store, and the actions of the running tick. How many ticks have ended, and how many since the
-- last mark or start. The records that wait for the log, the two keepers, and the four files.
pub record World (D : Type 0) : Type 0 where
  pub content : Content
  pub running : List Action
  pub ended : ℕ
  pub since : ℕ
  pub queue : List Record
  pub images : ImageProgress
  pub log : LogProgress
  pub files : FourFiles D

-- in a round each cell is taken or left, and without a round none is left
pub record CellsLeft (keeper : ImageProgress) (content : Content) : Type 0 where
  pub in_round : (keeper.phase ≡ Idle → ⊥) → cells_taken keeper + length content.left ≡ keeper.cells
  pub idle : keeper.phase ≡ Idle → content.left ≡ []

module _ {D : Type 0} (disk : Ghosts D) where
  -- the image keeper and its files represent these images
  abbrev pub HasImages : World D → ImageFiles → Type 0
  HasImages world images =
      ImageDisksStand disk world.images images world.files.image_a world.files.image_b

  -- the log keeper and its files represent this log
  abbrev pub HasLog : World D → LogPlace → Type 0
  HasLog world place =
      LogDisksStand disk world.log world.files.log_a world.files.log_b place

-- The invariant of an engine. The image keeper fits the store. The log keeper may take the queue,
-- which ends with the last ended tick. Both fit their files if those keep to the disk model.
pub record IsInOrder {D : Type 0} (disk : Ghosts D) (world : World D) : Type 0 where
  pub cells : world.images.cells ≡ length world.content.live
  pub left : CellsLeft world.images world.content
  pub images_fit : IsTrue disk.honest
      → ImagesFit world.images (disk.content world.files.image_a) (disk.content world.files.image_b)
  pub log_fits : IsTrue disk.honest
      → LogFits world.log (disk.content world.files.log_a) (disk.content world.files.log_b)
  pub queue_follows : QueueFollows world.log world.queue
  pub queue_end : end_of world.log world.queue
      ≡ record { base = world.ended - world.since; count = world.since }
  pub within : world.since ≤ world.ended
  pub most : world.ended ≤ TICK_MAX

-- The start is over, no tick is running, and neither keeper has work left, unless it is down.
pub record IsAtRest {D : Type 0} (world : World D) : Type 0 where
  pub started : world.log.starting ≡ false
  pub running : world.running ≡ []
  pub over : (world.images.phase ≡ Idle) ⊎ (world.images.phase ≡ Down)
  pub rests : (world.log.down ≡ true) ⊎ (work_of world.log world.queue ≡ 0)
