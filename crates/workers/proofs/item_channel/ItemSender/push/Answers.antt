use Rattle.std.proofs.Common.{rules, subst, sym}
use Rattle.crossbeam_channel.specs.Claims.{view}
use Rattle.workers.specs.Items.{Goes, items_end}
use Rattle.workers.specs.Channel.{Pushing}
use Rattle.workers.specs.Order.{pushed_of}
use Rattle.workers.proofs.Numbers.{numbered_more}
use Rattle.workers.proofs.Orders.{pushes, learns_nothing}
use Rattle.workers.proofs.Sides.{sender_after}
use Rattle.workers.proofs.item_channel.ItemSender.push.Goals as goal

pub send_as-requires-clause-rule : goal.send_as-requires-clause-rule
send_as-requires-clause-rule g c = (
  pushes _ _ _ _ (search rules)
      (numbered_more (pushed_of (view c.self.inside.pass)) _ c.self.invariant.begun c.self.invariant.numbered
      (subst (λ (p : Pushing). Goes (items_end p.items) c.args.item) (sym c.self.view_is) c.requires.goes)),
  learns_nothing _ _,
)

pub invariant_of-self : goal.invariant_of-self
invariant_of-self g c =
    sender_after c.self.inside.end c.self.inside.pass c.send_as.new.pass c.args.item _ c.send_as.result c.send_as.ensures.rule
    c.send_as.ensures.channel.0 c.self.invariant (subst (λ (p : Pushing). Goes (items_end p.items) c.args.item) (sym c.self.view_is) c.requires.goes)
