use Rattle.std.proofs.Common.{rules, subst, IfOk}
use Rattle.workers.specs.Items.{Goes, items_end}
use Rattle.workers.specs.Channel.{Popping}
use Rattle.workers.proofs.Orders.{pops, learns_nothing}
use Rattle.workers.proofs.Sides.{receiver_after, received_goes}
use Rattle.workers.proofs.item_channel.ItemReceiver.sleep.Goals as goal

pub recv_as-requires-clause-rule : goal.recv_as-requires-clause-rule
recv_as-requires-clause-rule g c = (pops _ _ (search rules), learns_nothing _ _)

pub returns-clause-goes : goal.returns-clause-goes
returns-clause-goes g c =
    subst (λ (p : Popping). IfOk c.recv_as.result (λ x. Goes (items_end p.items) x)) c.self.view_is
    (received_goes c.self.inside.end c.self.inside.pass c.recv_as.new.pass _ c.recv_as.result c.recv_as.ensures.rule c.self.invariant)

pub invariant_of-self : goal.invariant_of-self
invariant_of-self g c = receiver_after c.self.inside.end c.self.inside.pass c.recv_as.new.pass _ c.recv_as.result c.recv_as.ensures.rule c.recv_as.ensures.channel.0 c.self.invariant
