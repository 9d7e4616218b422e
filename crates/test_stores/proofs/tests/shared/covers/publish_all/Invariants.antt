use Rattle.std.proofs.Common.{◌≡◌, ◌≤◌, ℕ, Some}
use Rattle.std.specs.List.{slice_get}
use Rattle.test_stores.proofs.tests.shared.covers.publish_all.Given as goal

-- no stored tick exceeds the number of ticks so far
abbrev pub invariant-loop-tick : goal.invariant-loop-tick
invariant-loop-tick l = record {
  pair : l.out.pair ≡ l.initial.out.pair;
  below : (i earlier : ℕ) → slice_get l.out.numbers i ≡ Some earlier → earlier ≤ l.tick;
}
