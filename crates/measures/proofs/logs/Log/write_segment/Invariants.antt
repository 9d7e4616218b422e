use Rattle.std.proofs.Common.{◌≡◌, ◌+◌, ◌*◌}
use Rattle.measures.proofs.logs.Log.write_segment.Given as goal

-- a group of 32 ticks was queued and written each time
abbrev pub invariant-loop : goal.invariant-loop
invariant-loop l = l.self ≡ l.initial.self + 32 * l.counter
