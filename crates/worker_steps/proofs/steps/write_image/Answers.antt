use Rattle.std.proofs.Common.{inr}
use Rattle.worker_steps.proofs.steps.write_image.Goals as goal

pub returns-then-left-gt0-clause-made : goal.returns-then-left-gt0-clause-made
returns-then-left-gt0-clause-made g c =
    let e = c.step.ensures in
    inr (inr (inr (record { goes = e.goes; calls = e.calls; takes = e.takes; less = e.less })))
