use Rattle.std.proofs.Common.{◌≡◌, false}
use Rattle.workers.specs.Imaging.{KeepsBack}
use Rattle.worker_threads.specs.Kept.{MayTake}
use Rattle.worker_threads.proofs.running.write_images.Given as goal

abbrev pub invariant-loop : goal.invariant-loop
invariant-loop g l = KeepsBack l.fn.checkpointer l.checkpointer × (l.checkpointer.over ≡ false → MayTake l.checkpointer)
