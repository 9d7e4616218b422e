-- A device that is reported as failed did fail, and a start begins with both keepers up.
use Rattle.std.proofs.Common.{ℕ, ◌+◌, min, List, get_or, ap, ◌∙◌}
use Rattle.std.proofs.lemmas.List.{get_or-set_same}
use Rattle.disk_model.specs.Disk.{last_count}
use Rattle.disk_model.specs.FourFiles.{OneGrew}
use Rattle.engine.specs.Runs.{SomeGrew}

pub some_of_one : (old new : List ℕ) → OneGrew old new → SomeGrew old new
some_of_one old new one = (
  one.place,
  one.inside,
  ap (λ (l : List ℕ). get_or l one.place 0) one.grew ∙ get_or-set_same old one.place (min (get_or old one.place 0 + 1) last_count) 0 one.inside,
)

-- ---- a start begins with both keepers up
