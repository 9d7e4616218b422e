use Rattle.worker_steps.proofs.Keeping.{may_play}
use Rattle.worker_steps.proofs.steps.owe_next_tick.Goals as goal

pub returns-clause-keeps : goal.returns-clause-keeps
returns-clause-keeps g c = (may_play _ _ c.args.mutator.now c.owe_next_tick.new.self c.owe_next_tick.result c.owe_next_tick.ensures).1

pub returns-clause-made : goal.returns-clause-made
returns-clause-made g c = (may_play _ _ c.args.mutator.now c.owe_next_tick.new.self c.owe_next_tick.result c.owe_next_tick.ensures).0
