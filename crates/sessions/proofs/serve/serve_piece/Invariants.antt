use Rattle.std.proofs.Common.{◌≤◌, ◌-◌, ℕ, List, length, take}
use Rattle.std.specs.Io.KnownBytes.{Appends}
use Rattle.sessions.specs.Progress.{Goes}
use Rattle.sessions.proofs.serve.serve_piece.Given as goal

-- the bytes so far led here
abbrev pub invariant-loop-at : goal.invariant-loop-at
invariant-loop-at g l = record {
  within : l.at ≤ length l.piece;
  goes : (written : List ℕ) × Appends (g.W.Write.contents l.fn.w) (g.W.Write.contents l.w) written
      × Goes g.X.World.runs l.fn.world l.fn.session.reader (take l.at l.piece) l.session.reader l.world written;
}

abbrev pub decreases-loop-at : goal.decreases-loop-at
decreases-loop-at g l = length l.piece - l.at
