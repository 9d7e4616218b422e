use Rattle.std.proofs.Common.{◌≡◌}
use Rattle.action_log.specs.Files.{FitsFiles}
use Rattle.action_log.specs.Progress.{QueueFollows}
use Rattle.test_surface.proofs.tests.logs.run.Given as goal

abbrev pub invariant-loop-steps : goal.invariant-loop-steps
invariant-loop-steps l = FitsFiles l.keeper l.a.content l.b.content × QueueFollows l.keeper l.queue.items
