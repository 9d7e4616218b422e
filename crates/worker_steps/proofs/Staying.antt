-- Files that the workers leave sound are sound for the world with which they began.
use Rattle.std.proofs.Common.{◌≡◌, ℕ, List, ◌∷◌, sym, ap, ◌∙◌, subst}
use Rattle.workers.specs.declared.item.Item.TheVariants.{Start}
use Rattle.workers.specs.declared.checkpointer.round.ImageWriter.{ImageWriter}
use Rattle.workers.specs.declared.log_writer.Log.{Log}
use Rattle.workers.specs.Mutating.{Playing}
use Rattle.workers.specs.Imaging.{Imaging}
use Rattle.workers.specs.Logging.{Logging}
use Rattle.disk_model.specs.declared.disk.Disk.{Ghosts}
use Rattle.worker_steps.specs.declared.opened.Opened.{Opened}
use Rattle.worker_steps.specs.Stopped.{WorldStands, BeginAt, AreSound, StaysSound}

pub stays_sound : {M D : Type 0} (disk : Ghosts D) (world : Opened M D) (m : Playing) (c : Imaging D) (w : Logging D)
    → m.opening ≡ world.front.live → c.opening ≡ world.images → w.opening ≡ world.log → BeginAt world.ended m.to.items → AreSound disk m c w → StaysSound disk world m c w
stays_sound {D = D} disk world m c w words_are writer_is log_is begin sound first ticks stands all =
    sound first ticks
    (subst (λ (x : List ℕ × ImageWriter D × Log D). WorldStands disk first ticks x.0 x.1 x.2) (λ i. (sym words_are i, sym writer_is i, sym log_is i)) stands)
    (begin.0, begin.1 ∙ ap (λ (n : ℕ). Start n ∷ begin.0) all)
