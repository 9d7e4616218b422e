use Rattle.std.proofs.Common.{rules}
use Rattle.workers.proofs.Histories.{reported_stop}
use Rattle.workers.proofs.mutator.Mutator.stop.Goals as goal

pub invariant_of-self-else-not-push : goal.invariant_of-self-else-not-push
invariant_of-self-else-not-push g c = reported_stop _ c.push.new.self c.self.invariant (search rules)
