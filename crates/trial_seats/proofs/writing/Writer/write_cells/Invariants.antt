use Rattle.std.proofs.Common.{◌≡◌}
use Rattle.trial_seats.proofs.writing.Writer.write_cells.Given as goal

abbrev pub invariant-loop : goal.invariant-loop
invariant-loop g l = (l.front.pair ≡ l.fn.front.pair) × (l.front.rounds ≡ l.fn.front.rounds)
