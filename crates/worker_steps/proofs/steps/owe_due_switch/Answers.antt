use Rattle.worker_steps.proofs.Keeping.{may_open, opens_keeps}
use Rattle.worker_steps.proofs.steps.owe_due_switch.Goals as goal

pub returns-clause-keeps : goal.returns-clause-keeps
returns-clause-keeps g c =
    let e = c.owe_due_switch.ensures in
    opens_keeps c.args.mutator.now c.owe_due_switch.new.self (may_open c.args.mutator.now c.owe_due_switch.new.self c.owe_due_switch.result e.opened e.none)

pub returns-clause-made : goal.returns-clause-made
returns-clause-made g c =
    let e = c.owe_due_switch.ensures in
    may_open c.args.mutator.now c.owe_due_switch.new.self c.owe_due_switch.result e.opened e.none
