use Rattle.std.proofs.Common.{◌≤◌, IsTrue}
use Rattle.workers.specs.Imaging.{KeepsBack}
use Rattle.worker_steps.specs.Stopped.{AreSound, acknowledged_by}
use Rattle.worker_steps.specs.Kept.{KeepsFront, KeepsLog}
use Rattle.worker_steps.proofs.together.Together.run.Given as goal

-- the files are sound after each step
abbrev pub invariant-loop-next : goal.invariant-loop-next
invariant-loop-next g l = record {
  sound : IsTrue g.D.Disk.honest → AreSound g.D.Disk l.self.mutator l.self.checkpointer l.self.log_writer;
  posted : l.self.log_writer.answers.posted ≤ acknowledged_by l.self.checkpointer l.self.log_writer;
  mutator : KeepsFront l.fn.self.mutator l.self.mutator;
  checkpointer : KeepsBack l.fn.self.checkpointer l.self.checkpointer;
  log_writer : KeepsLog l.fn.self.log_writer l.self.log_writer;
}
