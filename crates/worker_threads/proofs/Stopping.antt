-- Workers that began with a world leave its files sound once they have met at their ends, and empty none.
use Rattle.std.proofs.Common.{◌≡◌, ℕ, List, ◌++◌, true, ap, subst, ◌∙◌}
use Rattle.workers.specs.declared.item.Item.{Item}
use Rattle.workers.specs.Mutating.{Playing}
use Rattle.workers.specs.Imaging.{Imaging}
use Rattle.workers.specs.Logging.{Logging}
use Rattle.worker_steps.specs.declared.opened.Opened.{Opened}
use Rattle.worker_steps.specs.Begun.{Started, IsBegun}
use Rattle.worker_steps.specs.Stopped.{AreSound, StaysSound}
use Rattle.worker_steps.proofs.Staying.{stays_sound}
use Rattle.disk_model.specs.declared.disk.Disk.{Ghosts}
use Rattle.disk_model.specs.FourFiles.{EachFile, StaysFilled}
use Rattle.worker_threads.specs.Opening.{files_of}
use Rattle.worker_threads.specs.Kept.{StopsFront, StopsBack, StopsLog}

module _ {M D : Type 0} (disk : Ghosts D) (world : Opened M D) (every : ℕ) (begun : Started D)
    (m met_m : Playing) (c met_c : Imaging D) (w met_w : Logging D) (is : IsBegun world every begun)
    (stops_m : StopsFront begun.mutator m) (stops_c : StopsBack begun.checkpointer c) (stops_w : StopsLog begun.log_writer w)
    (same_m : met_m ≡ record m { front = record m.front { closed = met_m.front.closed } }) (same_c : met_c ≡ record c { back = met_c.back; over = true }) (same_w : met_w ≡ w) where
  began_images : met_c.opening ≡ world.images
  began_images = ap (λ (p : Imaging D). p.opening) same_c ∙ stops_c.keeps.opening ∙ ap (λ (p : Imaging D). p.opening) is.checkpointer

  began_log : met_w.opening ≡ world.log
  began_log = ap (λ (p : Logging D). p.opening) same_w ∙ stops_w.keeps.opening ∙ ap (λ (p : Logging D). p.opening) is.log_writer

  pub begun_stays_sound : AreSound disk met_m met_c met_w → StaysSound disk world met_m met_c met_w
  begun_stays_sound =
      let more : List Item = stops_m.keeps.items.0 in
      stays_sound disk world met_m met_c met_w (ap (λ (p : Playing). p.opening) same_m ∙ stops_m.keeps.opening ∙ is.words) began_images began_log
      (more, ap (λ (p : Playing). p.to.items) same_m ∙ stops_m.keeps.items.1 ∙ ap (λ (l : List Item). l ++ more) is.pushed)

  pub begun_stays_filled : EachFile (files_of met_c.opening met_w.opening) (files_of met_c.images met_w.log) (StaysFilled disk)
      → EachFile (files_of world.images world.log) (files_of met_c.images met_w.log) (StaysFilled disk)
  begun_stays_filled filled =
      subst (λ images. EachFile (files_of images world.log) (files_of met_c.images met_w.log) (StaysFilled disk)) began_images
      (subst (λ log. EachFile (files_of met_c.opening log) (files_of met_c.images met_w.log) (StaysFilled disk)) began_log filled)
