-- The ends of the three workers make the files sound.
use Rattle.std.proofs.Common.{◌≡◌, ℕ, ◌+◌, ◌≤◌, IsTrue, ◌++◌, length, None, sym, ap, ◌∙◌, subst}
use Rattle.image_files.specs.declared.phase.Phase.TheVariants as phases
use Rattle.image_files.specs.Images.{ImageFiles, ImageFilesAre, ImagesAre, Newest, newest_in, round_in}
use Rattle.action_log.specs.Logs.{Logs, LogsAre}
use Rattle.recovery.specs.Sound.{IsSound}
use Rattle.recovery.specs.Events.{ticks_in}
use Rattle.recovery.specs.Follow.{LawOfRecovery}
use Rattle.recovery.proofs.Law.{Reached}
use Rattle.workers.specs.declared.checkpointer.round.ImageWriter.{ImageWriter}
use Rattle.workers.specs.declared.log_writer.Log.{Log}
use Rattle.workers.specs.Items.{records_of}
use Rattle.workers.specs.Mutating.{Playing, IsMutator}
use Rattle.workers.specs.Logging.{Logging, IsLogging, LogStands}
use Rattle.image_files.specs.Progress.{newest_tick}
use Rattle.workers.specs.Imaging.{Imaging, IsCheckpointer, ImagesStand}
use Rattle.workers.specs.Meeting.{HaveMet}
use Rattle.worker_steps.specs.Stopped.{acknowledged_by, AreSound}
use Rattle.worker_steps.proofs.Below.{Laws}
use Rattle.worker_steps.proofs.Meeting.{sound}
use Rattle.disk_model.specs.declared.disk.Disk.{Ghosts}
use Rattle.worker_steps.proofs.Joined.{now_in, all_counted, was_played, was_taken, images_end, covered_at_most, was_logged, was_acknowledged, popped_first}

-- the files of the keepers agree with the images and the log that they represent
pub record FilesAre {D : Type 0} (disk : Ghosts D) : Type 0 where
  pub left : (writer : ImageWriter D) (images : ImageFiles) → ImagesStand disk writer images → ImageFilesAre writer.keeper.cells images (disk.may_leave writer.image_a) (disk.may_leave writer.image_b)
  pub newest : (writer : ImageWriter D) (images : ImageFiles) → ImagesStand disk writer images → writer.keeper.newest ≡ newest_in images
  pub idle : (writer : ImageWriter D) (images : ImageFiles) → ImagesStand disk writer images → writer.keeper.phase ≡ phases.Idle → round_in images ≡ None
  pub logs : (log : Log D) (logs : Logs) → LogStands disk log logs → LogsAre logs (disk.may_leave log.a) (disk.may_leave log.b)

module _ {D : Type 0} (disk : Ghosts D) (laws : Laws) (files : FilesAre disk)
    (m : Playing) (c : Imaging D) (w : Logging D) where
  pub ended : LawOfRecovery (disk.may_leave c.images.image_a) (disk.may_leave c.images.image_b) (disk.may_leave w.log.a) (disk.may_leave w.log.b)
      → IsTrue disk.honest → IsMutator m → IsCheckpointer disk c → IsLogging disk w → HaveMet m c w → AreSound disk m c w
  ended law sure is_m is_c is_w met first ticks stands begin =
      let image_a = disk.may_leave c.images.image_a in
      let image_b = disk.may_leave c.images.image_b in
      let same_records : records_of m.to.items ≡ records_of begin.0 = ap records_of begin.1 in
      let back_cells : c.back.cells ≡ length first = sym is_c.cells ∙ stands.cells_are in
      let now_cells : c.images.keeper.cells ≡ length first = is_c.step.cells ∙ back_cells in
      let played = was_played m (length ticks) begin is_m met.numbered in
      let taken = was_taken (length first) m.front c.back m.front.closed back_cells is_c.follows.whole met.agree met.level in
      let images = images_end disk stands.images c.images c.back (files.left c.images) (files.newest c.images) (files.idle c.images) is_c.step
      (is_c.follows.stands sure (Newest stands.images) stands.has_images) in
      let writes = is_w.writes sure stands.logs stands.has_log in
      let few = covered_at_most c.covers.numbers w.covers.numbers (newest_tick c.images.keeper.newest) met.reported is_c.published.older in
      let few_images : (tick : ℕ) → _ → tick ≤ images.images.tick = λ tick has. subst (λ n. tick ≤ n) images.tick (few tick has) in
      let logged = was_logged disk w.log w.ring.items w.covers.numbers w.acked w.down stands.logs (records_of w.from.items) writes in
      let reached = was_acknowledged disk w.log w.ring.items w.covers.numbers w.acked w.down stands.logs (records_of w.from.items) writes (newest_tick c.images.keeper.newest) few in
      let order = popped_first w.from.items met.waiting m.to.items met.order ∙ same_records in (
        subst (λ r. IsSound image_a image_b (disk.may_leave w.log.a) (disk.may_leave w.log.b) first (ticks ++ ticks_in r) (acknowledged_by c w)) (sym same_records)
            (sound laws first ticks m.opening stands.images images.images stands.logs writes.logs begin.0 m.front.rounds c.back.done (now_in c.back.working c.back.now) law
            (records_of w.from.items) (records_of met.waiting) w.covers.numbers (acknowledged_by c w) stands.settled played taken images.are_those order few_images logged
            (subst (λ n. Reached (acknowledged_by c w) (writes.logs.base + length writes.logs.kept) n) images.tick reached)
            (subst (λ n. ImagesAre n images.images image_a image_b) now_cells images.left)
            (files.logs w.log writes.logs writes.stands)),
        all_counted m ticks begin is_m met.numbered,
      )
