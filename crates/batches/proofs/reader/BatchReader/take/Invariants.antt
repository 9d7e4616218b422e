use Rattle.std.proofs.Common.{ℕ, List, ◌++◌, take}
use Rattle.batches.specs.Reading.{IsBegun}
use Rattle.batches.proofs.reader.BatchReader.take.Given as goal

-- no batch has ended in the bytes so far
abbrev pub invariant-loop-i : goal.invariant-loop-i
invariant-loop-i l = (before : List ℕ) → IsBegun before l.fn.self → IsBegun (before ++ take l.i l.piece) l.self
