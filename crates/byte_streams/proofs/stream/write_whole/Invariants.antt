use Rattle.std.proofs.Common.{◌≤◌, length, take}
use Rattle.std.specs.Io.KnownBytes.{Appends}
use Rattle.byte_streams.proofs.stream.write_whole.Given as goal

-- the bytes so far are written
abbrev pub invariant-loop : goal.invariant-loop
invariant-loop g l = record {
  within : l.written ≤ length l.bytes;
  front : Appends (g.W.Write.contents l.fn.w) (g.W.Write.contents l.w) (take l.written l.bytes);
}
