use Rattle.worker_steps.proofs.Keeping.{stop_keeps}
use Rattle.worker_steps.proofs.steps.stop.Goals as goal

pub returns-clause-keeps : goal.returns-clause-keeps
returns-clause-keeps g c = stop_keeps c.args.mutator.now c.stop.new.self c.stop.ensures
