use Rattle.std.proofs.Common.{◌++◌, ◌∷◌, [], subst, IfOk}
use Rattle.workers.specs.AskOrder.{AreNumbered}
use Rattle.workers.specs.AskChannel.{Taking}
use Rattle.workers.proofs.AskOrders.{takes, learns_nothing}
use Rattle.workers.proofs.AskSides.{taking_after, took_numbered}
use Rattle.workers.proofs.ask_channel.AskReceiver.sleep.Goals as goal

pub recv_as-requires-clause-rule : goal.recv_as-requires-clause-rule
recv_as-requires-clause-rule g c = (takes _ _ c.self.invariant.takes, learns_nothing _ _)

pub returns-clause-numbered : goal.returns-clause-numbered
returns-clause-numbered g c =
    subst (λ (t : Taking). IfOk c.recv_as.result (λ x. AreNumbered (t.taken ++ x ∷ []))) c.self.view_is
    (took_numbered c.self.inside.end c.self.inside.pass c.recv_as.new.pass _ c.recv_as.result c.recv_as.ensures.rule)

pub invariant_of-self : goal.invariant_of-self
invariant_of-self g c = taking_after c.self.inside.end c.self.inside.pass c.recv_as.new.pass _ c.recv_as.result c.recv_as.ensures.rule c.recv_as.ensures.channel.0 c.self.invariant
