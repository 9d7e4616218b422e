use Rattle.std.proofs.Common.{rules}
use Rattle.workers.proofs.AskOrders.{starts, parts}
use Rattle.workers.proofs.ask_channel.AskChannel.open.Goals as goal

pub bounded_with-requires-clause-rule : goal.bounded_with-requires-clause-rule
bounded_with-requires-clause-rule c = starts

pub another-other-requires-clause-rule : goal.another-other-requires-clause-rule
another-other-requires-clause-rule c = parts _ _ (search rules)
