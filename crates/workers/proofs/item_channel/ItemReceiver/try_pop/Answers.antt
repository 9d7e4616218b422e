use Rattle.std.proofs.Common.{rules, subst, IfOk}
use Rattle.workers.specs.Items.{Goes, items_end}
use Rattle.workers.specs.Channel.{Popping}
use Rattle.workers.proofs.Orders.{pops, learns_nothing}
use Rattle.workers.proofs.Sides.{receiver_after, received_goes}
use Rattle.workers.proofs.item_channel.ItemReceiver.try_pop.Goals as goal

pub try_recv_as-requires-clause-rule : goal.try_recv_as-requires-clause-rule
try_recv_as-requires-clause-rule g c = (pops _ _ (search rules), learns_nothing _ _)

pub returns-clause-goes : goal.returns-clause-goes
returns-clause-goes g c =
    subst (λ (p : Popping). IfOk c.try_recv_as.result (λ x. Goes (items_end p.items) x)) c.self.view_is
    (received_goes c.self.inside.end c.self.inside.pass c.try_recv_as.new.pass _ c.try_recv_as.result c.try_recv_as.ensures.rule c.self.invariant)

pub invariant_of-self : goal.invariant_of-self
invariant_of-self g c = receiver_after c.self.inside.end c.self.inside.pass c.try_recv_as.new.pass _ c.try_recv_as.result c.try_recv_as.ensures.rule c.try_recv_as.ensures.channel.0 c.self.invariant
