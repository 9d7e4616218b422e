use Rattle.std.proofs.Common.{ℕ, List}
use Rattle.std.specs.Io.KnownBytes.{Appends, Consumes}
use Rattle.sessions.specs.Progress.{Stands}
use Rattle.sessions.proofs.serve.serve_pieces.Given as goal

-- the bytes that were read and written so far
abbrev pub invariant-loop : goal.invariant-loop
invariant-loop g l = (input : List ℕ) × Consumes (g.R.Read.remaining l.fn.r) (g.R.Read.remaining l.r) input
    × ((written : List ℕ) × Appends (g.W.Write.contents l.fn.w) (g.W.Write.contents l.w) written × Stands g.X.World.runs l.fn.world input l.session.reader l.world written)
