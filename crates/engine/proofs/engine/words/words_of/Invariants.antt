use Rattle.std.proofs.Common.{◌≡◌, take}
use Rattle.engine.proofs.engine.words.words_of.Given as goal

abbrev pub invariant-loop-i : goal.invariant-loop-i
invariant-loop-i g l =
    (g.C.Cells.words l.store ≡ g.C.Cells.words l.fn.store) × (l.words.items ≡ take l.i (g.C.Cells.words l.fn.store))
    × (g.C.Capture.content l.store ≡ g.C.Capture.content l.fn.store)
