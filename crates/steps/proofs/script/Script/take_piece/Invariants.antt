use Rattle.std.proofs.Common.{ℕ, List, ◌++◌, take}
use Rattle.std.specs.Io.KnownBytes.{Appends}
use Rattle.steps.specs.Progress.{LeadsOn}
use Rattle.steps.proofs.script.Script.take_piece.Given as goal

-- the bytes so far led here, with what was written and the answers that wait
abbrev pub invariant-loop-byte : goal.invariant-loop-byte
invariant-loop-byte g l = (written : List ℕ) × Appends (g.W.Write.contents l.fn.w) (g.W.Write.contents l.w) written
    × LeadsOn l.fn.self (take l.byte-index l.piece) l.self (written ++ l.text.items)
