use Rattle.std.proofs.Common.{rules, ◌≡◌, Some, sym, ap, ◌∙◌}
use Rattle.workers.specs.declared.item.Owed.{Owed}
use Rattle.workers.specs.declared.item.Owed.TheVariants.{Tick, Switch}
use Rattle.workers.specs.Worlds.{begun, world_of}
use Rattle.workers.proofs.Histories.{owed_item, paid_tick, paid_switch, last_owed}
use Rattle.workers.proofs.mutator.Mutator.pay.Goals as goal

pub invariant_of-self-then-push : goal.invariant_of-self-then-push
invariant_of-self-then-push g c =
    let owed : c.self.inside.owed ≡ Some (Tick c.in-Tick.ended) = sym c.take.ensures.value ∙ (c.in-Some.is ∙ ap (λ (x : Owed). Some x) c.in-Tick.is) in
    paid_tick _ c.push.new.self c.self.invariant c.take.new.self c.take.ensures.after c.in-Tick.ended (owed_item _ _ c.self.invariant owed) (search rules)

pub ring-requires : goal.ring-requires
ring-requires g c =
    let owed : c.self.inside.owed ≡ Some (Switch c.in-Switch.number) = sym c.take.ensures.value ∙ (c.in-Some.is ∙ ap (λ (x : Owed). Some x) c.in-Switch.is) in
    last_owed (begun c.self.inside.opening.value.live) c.self.inside.to.items c.in-Switch.number (world_of c.self.inside.front) (owed_item _ _ c.self.invariant owed).leads

pub invariant_of-self-then-push-2 : goal.invariant_of-self-then-push-2
invariant_of-self-then-push-2 g c =
    let owed : c.self.inside.owed ≡ Some (Switch c.in-Switch.number) = sym c.take.ensures.value ∙ (c.in-Some.is ∙ ap (λ (x : Owed). Some x) c.in-Switch.is) in
    paid_switch _ c.push-in-Switch.new.self c.self.invariant c.take.new.self c.take.ensures.after c.in-Switch.number (owed_item _ _ c.self.invariant owed) (search rules)
