use Rattle.action_log.specs.Progress.{work_of}
use Rattle.engine.specs.Runs.{RunsLog}
use Rattle.engine.proofs.engine.Engine.write_log.Given as goal

-- the log keeper made steps
abbrev pub invariant-loop-self : goal.invariant-loop-self
invariant-loop-self g l = RunsLog g.D.Disk l.fn.self l.self

abbrev pub decreases-loop-self : goal.decreases-loop-self
decreases-loop-self g l = work_of l.self.log l.self.queue
