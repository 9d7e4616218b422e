use Rattle.std.proofs.Common.{◌≡◌, ◌≤◌, length}
use Rattle.std.specs.Io.KnownBytes.{Consumes}
use Rattle.world_folder.proofs.forward.read_forward.Given as goal

-- what was read so far
abbrev pub invariant-loop : goal.invariant-loop
invariant-loop g l = record {
  read : Consumes (g.R.Read.remaining l.fn.r) (g.R.Read.remaining l.r) l.bytes.items;
  most : length l.bytes.items ≤ l.fn.most;
  page : length l.page ≡ 4096;
}
