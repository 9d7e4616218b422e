use Rattle.worker_steps.proofs.Keeping.{pays_keeps}
use Rattle.worker_steps.proofs.steps.pay.Goals as goal

pub returns-clause-keeps : goal.returns-clause-keeps
returns-clause-keeps g c = pays_keeps c.args.mutator.now c.pay.new.self c.pay.ensures
