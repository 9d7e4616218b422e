use Rattle.std.proofs.Common.{◌++◌, ◌∷◌, [], subst, IfOk}
use Rattle.workers.specs.AskOrder.{AreNumbered}
use Rattle.workers.specs.AskChannel.{Taking}
use Rattle.workers.proofs.AskOrders.{takes, learns_nothing}
use Rattle.workers.proofs.AskSides.{taking_after, took_numbered}
use Rattle.workers.proofs.ask_channel.AskReceiver.try_take.Goals as goal

pub try_recv_as-requires-clause-rule : goal.try_recv_as-requires-clause-rule
try_recv_as-requires-clause-rule g c = (takes _ _ c.self.invariant.takes, learns_nothing _ _)

pub returns-clause-numbered : goal.returns-clause-numbered
returns-clause-numbered g c =
    subst (λ (t : Taking). IfOk c.try_recv_as.result (λ x. AreNumbered (t.taken ++ x ∷ []))) c.self.view_is
    (took_numbered c.self.inside.end c.self.inside.pass c.try_recv_as.new.pass _ c.try_recv_as.result c.try_recv_as.ensures.rule)

pub invariant_of-self : goal.invariant_of-self
invariant_of-self g c = taking_after c.self.inside.end c.self.inside.pass c.try_recv_as.new.pass _ c.try_recv_as.result c.try_recv_as.ensures.rule c.try_recv_as.ensures.channel.0 c.self.invariant
