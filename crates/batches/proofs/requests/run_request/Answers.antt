use Rattle.world_ticks.proofs.PerformsLemmas.{performs_read}
use Rattle.batches.proofs.requests.run_request.Goals as goal

pub returns-then-cell-len-clause-writes : goal.returns-then-cell-len-clause-writes
returns-then-cell-len-clause-writes g c = rw c.in-Get.is (performs_read g.C.Cells.accessed _ _ c.in-Get.cell c.read.ensures.access)
