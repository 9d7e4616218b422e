use Rattle.std.proofs.Common.{ap, ◌∙◌}
use Rattle.workers.specs.Logging.{Logging}
use Rattle.workers.proofs.Loggings.{kept}
use Rattle.workers.proofs.log_writer.LogWriter.try_take.Goals as goal

pub invariant_of-self : goal.invariant_of-self
invariant_of-self g c =
    kept g.D.Disk _ c.self.invariant c.in-Ok.item c.try_pop.new.self c.keep-self-inside.new.ring c.keep-self-inside.new.answers c.keep-self-inside.result
    (ap (λ (w : Logging g.row.D.Denot). w.down) c.self.view_is ∙ c.requires.up) c.in-Ok.ensures.popped c.in-Ok.ensures.goes
    c.keep-self-inside.ensures.follows c.keep-self-inside.ensures.end c.keep-self-inside.ensures.records c.keep-self-inside.ensures.answers
