use Rattle.std.proofs.Common.{IsTrue}
use Rattle.image_files.specs.Files.{FitsFiles}
use Rattle.test_surface.proofs.tests.images.run.Given as goal

abbrev pub invariant-loop-working : goal.invariant-loop-working
invariant-loop-working g l = IsTrue g.D.Disk.honest → FitsFiles l.keeper (g.D.Disk.content l.image_a) (g.D.Disk.content l.image_b)
