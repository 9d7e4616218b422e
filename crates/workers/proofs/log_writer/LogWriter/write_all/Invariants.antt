use Rattle.std.proofs.Common.{◌≡◌, ◌⊎◌, ◌≤◌, [], true, if◌then◌else◌}
use Rattle.action_log.specs.Progress.{work_of}
use Rattle.workers.specs.declared.gate.Place.TheVariants.{Device}
use Rattle.workers.specs.Gates.{MayGo, MayStick}
use Rattle.workers.specs.Covering.{LoadsOn}
use Rattle.workers.specs.Logging.{LogReportsFaults, FallsBy, WritesOnly}
use Rattle.workers.proofs.log_writer.LogWriter.write_all.Given as goal

abbrev pub invariant-loop-self : goal.invariant-loop-self
invariant-loop-self g l = record {
  same : WritesOnly l.fn.self l.self;
  loads : LoadsOn l.fn.self.covers l.self.covers;
  word : l.self.reported_down.pair ≡ l.fn.self.reported_down.pair;
  acked : l.fn.self.acked ≤ l.self.acked;
  faults : LogReportsFaults g.D.Disk.faults l.fn.self.log l.self.log;
  asks : (l.self.log ≡ l.fn.self.log) ⊎ MayGo g.G.Gate.answers Device;
  cause : l.self.down ≡ true → FallsBy (MayStick g.G.Gate.answers Device) l.self;
  refused : l.self.down ≡ true → l.self.answers.waiting ≡ [];
}

abbrev pub decreases-loop-self : goal.decreases-loop-self
decreases-loop-self g l = if l.self.down then 0 else work_of l.self.log.keeper l.self.ring.items
