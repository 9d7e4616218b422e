use Rattle.std.proofs.Common.{◌≡◌}
use Rattle.measures.proofs.logs.Log.write.Given as goal

-- no step queues a tick
abbrev pub invariant-loop : goal.invariant-loop
invariant-loop l = l.self ≡ l.initial.self
