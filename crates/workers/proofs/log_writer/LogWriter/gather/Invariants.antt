use Rattle.std.proofs.Common.{◌≡◌, ◌≤◌, ◌+◌, ◌-◌, false, List, length, if◌then◌else◌}
use Rattle.restart.specs.declared.start.TheConstants.{QUEUE_RECORDS}
use Rattle.workers.specs.declared.item.Item.{Item}
use Rattle.workers.specs.Logging.{Took, has_stop}
use Rattle.workers.proofs.log_writer.LogWriter.gather.Given as goal

abbrev pub invariant-loop-self : goal.invariant-loop-self
invariant-loop-self g l = record {
  took : (more : List Item) × Took l.fn.self l.self more × (l.self.over ≡ has_stop more);
  up : l.self.down ≡ false;
  few : length l.self.answers.waiting ≤ length l.self.ring.items;
}

abbrev pub decreases-loop-self : goal.decreases-loop-self
decreases-loop-self g l = (if l.self.over then 0 else 1) + (QUEUE_RECORDS - length l.self.ring.items)
