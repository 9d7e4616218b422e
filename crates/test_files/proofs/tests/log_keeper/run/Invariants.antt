use Rattle.std.proofs.Common.{◌≡◌}
use Rattle.action_log.specs.Files.{FitsFiles}
use Rattle.action_log.specs.Progress.{QueueFollows, end_of}
use Rattle.test_files.proofs.tests.log_keeper.run.Given as goal

abbrev pub invariant-loop-steps : goal.invariant-loop-steps
invariant-loop-steps l = FitsFiles l.keeper l.a.content l.b.content × QueueFollows l.keeper l.queue.items × (end_of l.keeper l.queue.items ≡ end_of l.initial.keeper l.initial.queue.items)
