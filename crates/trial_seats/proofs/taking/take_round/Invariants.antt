use Rattle.std.proofs.Common.{◌≡◌, true}
use Rattle.trial_seats.proofs.taking.take_round.Given as goal

abbrev pub invariant-loop-word : goal.invariant-loop-word
invariant-loop-word g l = (l.back.pair ≡ l.fn.back.pair) × (l.back.working ≡ true)
