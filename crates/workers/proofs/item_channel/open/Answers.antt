use Rattle.std.proofs.Common.{rules}
use Rattle.workers.proofs.Orders.{starts, forks, begins, pops, learns_nothing}
use Rattle.workers.proofs.item_channel.open.Goals as goal

pub bounded_with-requires-clause-rule : goal.bounded_with-requires-clause-rule
bounded_with-requires-clause-rule g c = starts

pub another-other-requires-clause-rule : goal.another-other-requires-clause-rule
another-other-requires-clause-rule g c = forks _ _ (search rules)

pub send_as-requires-clause-rule : goal.send_as-requires-clause-rule
send_as-requires-clause-rule g c = (begins _ _ _ _ (search rules), learns_nothing _ _)

pub recv_as-requires-clause-rule : goal.recv_as-requires-clause-rule
recv_as-requires-clause-rule g c = (pops _ _ (search rules), learns_nothing _ _)
