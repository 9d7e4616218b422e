use Rattle.worker_steps.specs.Kept.{KeepsFront}
use Rattle.worker_threads.proofs.running.play_batches.Given as goal

abbrev pub invariant-loop : goal.invariant-loop
invariant-loop g l = KeepsFront l.fn.mutator l.mutator
