-- The laws of the crates below that keep a world in step with its ticks.
use Rattle.std.specs.Prelude.{◌≡◌, ◌↔◌, ◌<◌, ◌≤◌, ℕ, Bool, IsTrue, Option, Some, None}
use Rattle.std.specs.Prelude.{List, [], ◌++◌, length}
use Rattle.world_actions.specs.declared.action.Action.{Action}
use Rattle.world_actions.specs.declared.world.TheConstants.{CELLS}
use Rattle.world_ticks.specs.declared.tick.TheConstants.{TICK_MAX}
use Rattle.world_ticks.specs.After.{and_then, after_actions}
use Rattle.capture_core.specs.Content.{Content, Takes}
use Rattle.file_format.specs.declared.slot.Slot.{Slot}
use Rattle.disk_model.specs.Disk.{Only}
use Rattle.disk_model.specs.declared.disk.Disk.{Ghosts}
use Rattle.image_files.specs.declared.phase.Phase.TheVariants.{Idle}
use Rattle.image_files.specs.Images.{Round, ImageFiles, ImageFilesAre}
use Rattle.image_files.specs.Images.{newest_in, round_in, with_round}
use Rattle.image_files.specs.Progress.{Progress as ImageProgress, made_keeper, begun_keeper}
use Rattle.image_files.specs.Progress.{cells_taken}
use Rattle.image_files.specs.Files.{DisksStand as ImageDisksStand, ReportsShut, IsReported}
use Rattle.action_log.specs.declared.phase.Phase.TheVariants.{Ready}
use Rattle.action_log.specs.declared.record.Record.{Record}
use Rattle.action_log.specs.declared.progress.Progress.{Progress as LogProgress}
use Rattle.action_log.specs.Segment.{Segment, IsSegment}
use Rattle.action_log.specs.Progress.{begun as begun_log}
use Rattle.action_log.specs.Logs.{Logs, Writing, Journal, JournalIs, LogPlace}
use Rattle.action_log.specs.Logs.{start_of, start_moves}
use Rattle.action_log.specs.Stands.{DisksStand as LogDisksStand}
use Rattle.recovery.specs.Events.{EventsKeep}
use Rattle.restart.specs.InStep.{InStep, WorldsGoOn, IsSafe}

-- Store, images, log and queue stay in step with the ticks, event by event. They are the same for
-- every kind of store.
pub record EventLaws : Type 0 where
  pub append : (world : List ℕ) (before after : List Action)
      → after_actions world (before ++ after)
      ≡ and_then (after_actions world before) (λ next. after_actions next after)
  pub keeps : EventsKeep Takes
  pub goes_on : WorldsGoOn

-- The keepers with their files represent images and a log, and whatever a crash leaves of
-- the files holds these.
pub record KeeperLaws {D : Type 0} (disk : Ghosts D) : Type 0 where
  pub made : (cells : ℕ) (newest : Option (Slot × ℕ)) (shut_a shut_b : Bool) (images : ImageFiles)
      (a b : D) → 1 ≤ cells → cells ≤ CELLS
      → Only (disk.content a) (disk.may_leave a) → Only (disk.content b) (disk.may_leave b)
      → ReportsShut shut_a (disk.content a) → ReportsShut shut_b (disk.content b)
      → IsReported cells newest images (disk.content a) (disk.content b)
      → ImageDisksStand disk (made_keeper cells newest shut_a shut_b) images a b
  pub begun : (keeper : ImageProgress) (tick : ℕ) (images : ImageFiles) (a b : D)
      → keeper.phase ≡ Idle → tick ≤ TICK_MAX → ImageDisksStand disk keeper images a b
      → ImageDisksStand disk (begun_keeper tick keeper) (with_round tick images) a b
  pub newest : (keeper : ImageProgress) (images : ImageFiles) (a b : D)
      → ImageDisksStand disk keeper images a b → keeper.newest ≡ newest_in images
  pub idle : (keeper : ImageProgress) (images : ImageFiles) (a b : D)
      → ImageDisksStand disk keeper images a b → keeper.phase ≡ Idle → round_in images ≡ None
  pub round : (keeper : ImageProgress) (images : ImageFiles) (a b : D)
      → ImageDisksStand disk keeper images a b → (keeper.phase ≡ Idle → ⊥)
      → (round : Round) × (round_in images ≡ Some round) × (round.tick ≡ keeper.tick)
      × (length round.taken ≡ cells_taken keeper)
  pub images_are : (keeper : ImageProgress) (images : ImageFiles) (a b : D)
      → ImageDisksStand disk keeper images a b
      → ImageFilesAre keeper.cells images (disk.may_leave a) (disk.may_leave b)
  pub begins : (tick : ℕ) (shut_a shut_b : Bool) (a b : D) (before_a before_b : Segment)
      → tick ≤ TICK_MAX → Only (disk.content a) (disk.may_leave a)
      → Only (disk.content b) (disk.may_leave b)
      → ReportsShut shut_a (disk.content a) → ReportsShut shut_b (disk.content b)
      → IsSegment (disk.content a) before_a → IsSegment (disk.content b) before_b
      → LogDisksStand disk (begun_log tick shut_a shut_b) a b
      (start_of tick before_a before_b (start_moves shut_a shut_b))
  pub left : (keeper : LogProgress) (a b : D) (place : LogPlace)
      → LogDisksStand disk keeper a b place
      → IsTrue keeper.starting ↔ (0 < place.left)
  pub ready : (keeper : LogProgress) (a b : D) (logs : Logs) (left : ℕ)
      → LogDisksStand disk keeper a b
      (record { journal = Writing logs; left = left }) → keeper.phase ≡ Ready
      → (logs.pending ≡ []) × (logs.switch ≡ None) × (logs.base ≡ keeper.base)
  pub reads : (keeper : LogProgress) (a b : D) (place : LogPlace)
      → LogDisksStand disk keeper a b place
      → JournalIs place.journal (disk.may_leave a) (disk.may_leave b)
  pub safe : (image_a image_b log_a log_b : D) (first : List ℕ) (ticks : List (List Action))
      (acknowledged : ℕ) (content : Content) (images : ImageFiles) (journal : Journal)
      (queue : List Record) → InStep first ticks acknowledged content images journal queue
      → ImageFilesAre (length first) images (disk.may_leave image_a) (disk.may_leave image_b)
      → JournalIs journal (disk.may_leave log_a) (disk.may_leave log_b)
      → IsSafe images (disk.may_leave image_a) (disk.may_leave image_b) (disk.may_leave log_a)
      (disk.may_leave log_b) first ticks acknowledged
