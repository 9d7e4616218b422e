use Rattle.std.proofs.Common.{◌≡◌}
use Rattle.workers.proofs.ask_channel.AskReceiver.next.Given as goal

-- nothing is popped yet
abbrev pub invariant-loop : goal.invariant-loop
invariant-loop g l = l.self ≡ l.fn.self
