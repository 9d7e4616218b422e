use Rattle.std.proofs.Common.{◌≡◌, drop}
use Rattle.image_files.specs.Taken.{has_same}
use Rattle.image_files.proofs.chunk.any_same.Given as goal

abbrev pub invariant-loop-cell : goal.invariant-loop-cell
invariant-loop-cell l = has_same (drop l.cell-index l.cells) ≡ has_same l.cells
