-- The files of a world in step are safe.
use Rattle.std.proofs.Common.{ℕ, List, length}
use Rattle.world_actions.specs.declared.action.Action.{Action}
use Rattle.image_files.specs.Images.{ImageFiles, NoneYet, Newest, ImageFilesAre}
use Rattle.action_log.specs.declared.record.Record.{Record}
use Rattle.action_log.specs.Logs.{Journal, InStart, Writing, JournalIs}
use Rattle.recovery.specs.Follow.{LawOfRecovery}
use Rattle.recovery.specs.Start.{LawOfStart, LawOfFirstStart}
use Rattle.recovery.specs.Events.{switches_in}
use Rattle.restart.specs.InStep.{HasPhase, IsSafe}

module _ (image_a image_b log_a log_b : List ℕ → Type 0) (after_start : LawOfRecovery image_a image_b log_a log_b)
    (in_start : LawOfStart image_a image_b log_a log_b) (before_image : LawOfFirstStart image_a image_b log_a log_b)
    (first : List ℕ) (ticks : List (List Action)) (acknowledged : ℕ) where
  pub safe_in : (images : ImageFiles) (journal : Journal) (queue : List Record)
      → HasPhase first ticks acknowledged images journal queue → ImageFilesAre (length first) images image_a image_b → JournalIs journal log_a log_b
      → IsSafe images image_a image_b log_a log_b first ticks acknowledged
  safe_in (NoneYet images) (InStart start) queue phase are is = (before_image first images start phase.0.follows are is, phase.0.no_ticks, phase.0.none_acknowledged)
  safe_in (NoneYet images) (Writing logs) queue phase are is = absurd phase
  safe_in (Newest images) (InStart start) queue phase are is = in_start first ticks acknowledged images phase.0.from start phase.0.starting are is
  safe_in (Newest images) (Writing logs) queue phase are is =
      after_start first ticks acknowledged phase.last images logs (switches_in queue) phase.accepted phase.images_follow phase.logs_follow phase.follow_marks are is
