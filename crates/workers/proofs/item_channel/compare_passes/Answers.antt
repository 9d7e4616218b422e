use Rattle.std.proofs.Common.{rules}
use Rattle.crossbeam_channel.specs.Claims.{view}
use Rattle.workers.specs.Order.{pushed_of, popped_of}
use Rattle.workers.proofs.Orders.{moves, merges, learns, forks}
use Rattle.workers.proofs.item_channel.compare_passes.Goals as goal

pub another-moved-requires-clause-rule : goal.another-moved-requires-clause-rule
another-moved-requires-clause-rule c = moves _ _ (search rules)

pub absorb-requires-clause-rule : goal.absorb-requires-clause-rule
absorb-requires-clause-rule c = merges _ _ _ _ (search rules) (search rules)

pub learn_as-requires-clause-rule : goal.learn_as-requires-clause-rule
learn_as-requires-clause-rule c = learns _ _ (pushed_of (view c.args.mine.now)) (popped_of (view c.args.theirs.now)) (search rules)

pub another-requires-clause-rule : goal.another-requires-clause-rule
another-requires-clause-rule c = forks _ _ (search rules)
