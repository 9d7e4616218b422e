use Rattle.std.proofs.Common.{rules}
use Rattle.engine.proofs.Runs.{log_step_at}
use Rattle.engine.proofs.engine.Engine.step_log.Goals as goal

pub returns : goal.returns
returns g c =
    let D = g.D.Disk in
    let e = c.step.ensures in
    record {
      steps = log_step_at D _ c.args.self.now c.step.result _ c.self.view_is (search rules);
    }
