use Rattle.engine.proofs.Runs.{log_then}
use Rattle.engine.proofs.engine.Engine.write_log.Goals as goal

pub loop-self-preserved : goal.loop-self-preserved
loop-self-preserved g c =
    let D = g.D.Disk in
    log_then D c.event_laws.ensures c.keeper_laws.ensures g.met.D.Disk.keeps_byte c.args.self.now c.loop-self.self c.step_log.result c.step_log.new.self
    (c.log_has_work.ensures.0 c.loop-self-test.true) c.loop-self.invariant c.step_log.ensures.steps

pub returns-in-Down-clause-runs : goal.returns-in-Down-clause-runs
returns-in-Down-clause-runs g c =
    let D = g.D.Disk in
    log_then D c.event_laws.ensures c.keeper_laws.ensures g.met.D.Disk.keeps_byte c.args.self.now c.loop-self.self c.step_log.result c.step_log.new.self
    (c.log_has_work.ensures.0 c.loop-self-test.true) c.loop-self.invariant c.step_log.ensures.steps
