use Rattle.std.proofs.Common.{◌≡◌, length}
use Rattle.std.specs.Io.KnownBytes.{Keeps}
use Rattle.byte_streams.proofs.stream.read_some.Given as goal

-- nothing is read yet
abbrev pub invariant-loop : goal.invariant-loop
invariant-loop g l = record {
  same : Keeps (g.R.Read.remaining l.fn.r) (g.R.Read.remaining l.r);
  size : length l.piece ≡ length l.fn.piece;
}
