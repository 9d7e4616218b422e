use Rattle.std.proofs.Common.{◌≡◌, length}
use Rattle.trial_crashes.proofs.QueueLemmas.{AreTicks}
use Rattle.trial_crashes.proofs.log_trial.records.Given as goal

-- the queue has a tick for each number so far, and nothing else
abbrev pub invariant-loop-i : goal.invariant-loop-i
invariant-loop-i l = record {
  capacity : l.queue.capacity ≡ 64;
  ticks : AreTicks l.queue.items;
  count : length l.queue.items ≡ l.i;
}
