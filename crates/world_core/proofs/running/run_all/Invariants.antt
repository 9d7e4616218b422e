use Rattle.world_core.specs.Plain.{HasRun}
use Rattle.world_core.proofs.running.run_all.Given as goal

abbrev pub invariant-loop-asked : goal.invariant-loop-asked
invariant-loop-asked g l = HasRun l.cells l.yielded l.answers.items l.core
