use Rattle.std.proofs.Common.{◌≡◌, take}
use Rattle.disk_model.specs.Leaving.{filled}
use Rattle.disk_model.proofs.model_file.ModelFile.filled.Given as goal

abbrev pub invariant-loop-place : goal.invariant-loop-place
invariant-loop-place l = l.left.items ≡ take l.place (filled l.byte l.self.durable l.self.unsynced)
