use Rattle.std.proofs.Common.{◌≡◌, ◌<◌, ◌*◌, ℕ, not}
use Rattle.packed_marks.specs.Bits.{marked}
use Rattle.packed_marks.proofs.marks.invert.Given as goal

abbrev pub invariant-loop-k : goal.invariant-loop-k
invariant-loop-k l = (i : ℕ) → i < 64 * l.k → marked l.others i ≡ not (marked l.words i)
