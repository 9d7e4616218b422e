use Rattle.worker_steps.proofs.together.Together.step.Goals as goal

pub returns-clause-made : goal.returns-clause-made
returns-clause-made g c = (_, c.make_step.ensures.made, c.meet.ensures.meets)
