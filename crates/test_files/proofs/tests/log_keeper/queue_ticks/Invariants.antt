use Rattle.std.proofs.Common.{◌≡◌}
use Rattle.action_log.specs.Progress.{QueueFollows, end_of}
use Rattle.test_files.proofs.tests.log_keeper.queue_ticks.Given as goal

abbrev pub invariant-loop : goal.invariant-loop
invariant-loop g l = QueueFollows l.fn.keeper l.queue.items × (end_of l.fn.keeper l.queue.items ≡ record { base = 0; count = l.counter })
