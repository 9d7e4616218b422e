use Rattle.std.proofs.Common.{◌≡◌, ◌+◌}
use Rattle.measures.proofs.logs.Log.push_group.Given as goal

-- a tick was queued for each number so far
abbrev pub invariant-loop : goal.invariant-loop
invariant-loop l = l.self ≡ l.initial.self + l.counter
