use Rattle.std.proofs.Common.{ap, ◌∙◌}
use Rattle.workers.specs.Logging.{Logging}
use Rattle.workers.proofs.Coverings.{none_before}
use Rattle.workers.proofs.log_writer.LogWriter.fall.Goals as goal

pub publish-requires-clause-newer : goal.publish-requires-clause-newer
publish-requires-clause-newer g c = none_before _ _ (c.self.invariant.reports.0 (ap (λ (w : Logging g.row.D.Denot). w.down) c.self.view_is ∙ c.requires.up))
