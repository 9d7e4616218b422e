use Rattle.restart.proofs.Safe.{safe_in}
use Rattle.restart.proofs.in_step.worlds_are_safe.Goals as goal

pub returns : goal.returns
returns g c = λ image_a image_b log_a log_b first ticks acknowledged content images journal queue w are is.
    safe_in (g.D.Disk.may_leave image_a) (g.D.Disk.may_leave image_b) (g.D.Disk.may_leave log_a) (g.D.Disk.may_leave log_b)
    (c.law_of_recovery.ensures image_a image_b log_a log_b) (c.law_of_start.ensures image_a image_b log_a log_b) (c.law_of_first_start.ensures image_a image_b log_a log_b)
    first ticks acknowledged images journal queue w.phase are is
