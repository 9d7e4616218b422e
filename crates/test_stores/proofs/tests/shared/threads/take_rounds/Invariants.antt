use Rattle.std.proofs.Common.{◌≡◌}
use Rattle.test_stores.proofs.tests.shared.threads.take_rounds.Given as goal

abbrev pub invariant-loop : goal.invariant-loop
invariant-loop g l = l.back.pair ≡ l.fn.back.pair
