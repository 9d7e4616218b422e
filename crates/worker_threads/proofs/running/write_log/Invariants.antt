use Rattle.std.specs.Prelude.{◌≡◌, ◌⊎◌, false}
use Rattle.workers.specs.Logging.{IsAtRest, IsPosted}
use Rattle.worker_steps.specs.Kept.{KeepsLog}
use Rattle.worker_threads.proofs.running.write_log.Given as goal

abbrev pub invariant-loop : goal.invariant-loop
invariant-loop g l = KeepsLog l.fn.log_writer l.log_writer × IsAtRest l.log_writer × ((l.log_writer.over ≡ false) ⊎ (l.log_writer.down ≡ false → IsPosted l.log_writer))
