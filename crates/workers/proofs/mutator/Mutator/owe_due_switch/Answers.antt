use Rattle.std.proofs.Common.{rules}
use Rattle.workers.proofs.Histories.{owes_switch}
use Rattle.workers.proofs.mutator.Mutator.owe_due_switch.Goals as goal

pub invariant_of-self-2 : goal.invariant_of-self-2
invariant_of-self-2 g c = owes_switch _ c.mark.new.self _ c.self.invariant (search rules) (search rules) c.mark.ensures.same.1 (search rules) c.mark.ensures.flags
