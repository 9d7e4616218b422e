use Rattle.std.proofs.Common.{rules}
use Rattle.workers.proofs.Histories.{begins}
use Rattle.workers.proofs.mutator.Mutator.new.Goals as goal

pub invariant_of-result : goal.invariant_of-result
invariant_of-result g c = begins c.args.asks c.args.front c.args.to c.args.heard _ c.args.tick _ c.requires.none c.requires.start (search rules) c.requires.numbered c.requires.flags (search rules)
