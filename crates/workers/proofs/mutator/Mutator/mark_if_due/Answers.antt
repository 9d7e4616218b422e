use Rattle.std.proofs.Common.{inr}
use Rattle.workers.proofs.mutator.Mutator.mark_if_due.Goals as goal

pub returns-then-owe_due_switch : goal.returns-then-owe_due_switch
returns-then-owe_due_switch g c = inr (c.owe_due_switch.new.self, c.owe_due_switch.ensures.opened c.if-owe_due_switch.true, c.pay.ensures)
