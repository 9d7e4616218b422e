use Rattle.std.proofs.Common.{◌≡◌}
use Rattle.trial_seats.proofs.taking.take_rounds.Given as goal

abbrev pub invariant-loop-round : goal.invariant-loop-round
invariant-loop-round g l = l.back.pair ≡ l.fn.back.pair
