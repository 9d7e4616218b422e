use Rattle.std.proofs.Common.{length}
use Rattle.workers.specs.Answering.{Posts}
use Rattle.workers.proofs.log_writer.answers.Answers.post_all.Given as goal

abbrev pub invariant-loop-receipt : goal.invariant-loop-receipt
invariant-loop-receipt g l = Posts l.receipt l.fn.self l.self

abbrev pub decreases-loop-receipt : goal.decreases-loop-receipt
decreases-loop-receipt g l = length l.self.waiting
