use Rattle.std.proofs.Common.{rules}
use Rattle.workers.proofs.AskOrders.{sends, learns_nothing}
use Rattle.workers.proofs.asker.Asker.send.Goals as goal

pub send_as-requires-clause-rule : goal.send_as-requires-clause-rule
send_as-requires-clause-rule g c = (sends _ _ _ _ _ _ _ c.self.invariant.sends (search rules) (search rules), learns_nothing _ _)
