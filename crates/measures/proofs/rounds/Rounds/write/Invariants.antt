use Rattle.std.proofs.Common.{◌≡◌}
use Rattle.measures.proofs.rounds.Rounds.write.Given as goal

-- no step begins a round
abbrev pub invariant-loop : goal.invariant-loop
invariant-loop g l = l.self ≡ l.initial.self
