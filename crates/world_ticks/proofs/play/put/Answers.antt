use Rattle.world_ticks.proofs.PerformsLemmas.{performs_write, performs_then}
use Rattle.world_ticks.proofs.play.put.Goals as goal

pub returns-in_default-clause-writes : goal.returns-in_default-clause-writes
returns-in_default-clause-writes g c =
    rw (c.in_default.is, ← c.cells-first_cell.ensures.first) (performs_write _ _ _ _ c.write.ensures.access)

pub returns-in-Some-clause-writes : goal.returns-in-Some-clause-writes
returns-in-Some-clause-writes g c =
    rw (c.in-Some.is, ← c.cells-first_cell.ensures.first, ← c.cells-first_cell.ensures.second)
    (performs_then (performs_write _ _ _ _ c.write.ensures.access) (performs_write _ _ _ _ c.write-in-Some.ensures.access))
