use Rattle.std.proofs.Common.{◌≡◌}
use Rattle.test_stores.proofs.tests.shared.covers.load_all.Given as goal

abbrev pub invariant-loop : goal.invariant-loop
invariant-loop l = l.from.pair ≡ l.fn.from.pair
