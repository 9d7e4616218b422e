use Rattle.std.proofs.Common.{◌≡◌, true}
use Rattle.test_stores.proofs.tests.shared.threads.take_round.Given as goal

abbrev pub invariant-loop-cell : goal.invariant-loop-cell
invariant-loop-cell g l = (l.back.pair ≡ l.fn.back.pair) × (l.back.working ≡ true)
