use Rattle.std.proofs.Common.{◌≡◌}
use Rattle.trial_seats.proofs.taking.find_round.Given as goal

abbrev pub invariant-loop : goal.invariant-loop
invariant-loop g l = l.back.pair ≡ l.fn.back.pair
