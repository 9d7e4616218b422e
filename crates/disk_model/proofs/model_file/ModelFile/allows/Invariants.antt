use Rattle.std.proofs.Common.{◌≡◌, ℕ, ◌<◌, get_or}
use Rattle.disk_model.specs.FileState.{Marked}
use Rattle.disk_model.proofs.model_file.ModelFile.allows.Given as goal

abbrev pub invariant-loop-i : goal.invariant-loop-i
invariant-loop-i l = (place : ℕ) → place < l.i → ¬ Marked l.self-inside.unsynced.items place → get_or l.left place 0 ≡ get_or l.self-inside.durable.items place 0
