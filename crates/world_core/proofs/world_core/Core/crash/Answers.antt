use Rattle.std.proofs.Common.{subst}
use Rattle.world_core.specs.Starting.{StandsOn}
use Rattle.world_core.specs.Facts.{IsCoreAt}
use Rattle.world_core.proofs.Recovering.{stands_stepped, refused_exact}
use Rattle.world_core.proofs.world_core.Core.crash.Goals as goal
use Rattle.world_core.specs.declared.moves.Move.TheVariants as move
use Rattle.world_core.proofs.Repeating.{refused_step}
use Rattle.world_core.specs.Stepped.{Stepped}

stepped : (g : _) (c : goal.After-in_order g) → Stepped (move.Crash c.args.left) c.args.self.now c.in-Ok.answer c.in-Ok.engine
stepped g c =
    let left = c.args.left in
    stands_stepped c.event_laws.ensures c.safety_laws.ensures c.self.invariant.0 c.args.self.now c.in-Ok.engine (subst (IsCoreAt c.self.invariant.0) c.self.view_is c.self.invariant.1)
    c.in_order.ensures left (c.allows.ensures.0 c.if-not-allows.false) c.in-Ok.answer
    (subst (λ n. StandsOn n left.image_a.items left.image_b.items left.log_a.items left.log_b.items c.in-Ok.answer c.in-Ok.engine) c.cells.ensures c.in-Ok.ensures.stands)

pub invariant_of-self : goal.invariant_of-self
invariant_of-self g c = (_, (stepped g c).keeps c.self.invariant.0 (subst (IsCoreAt c.self.invariant.0) c.self.view_is c.self.invariant.1))

pub returns-in-Ok : goal.returns-in-Ok
returns-in-Ok g c = stepped g c

pub returns-in-Err : goal.returns-in-Err
returns-in-Err g c = refused_step _ _ _ (λ past h.
    let left = c.args.left in
    refused_exact c.safety_laws.ensures past c.args.self.now h left.image_a.items left.image_b.items left.log_a.items left.log_b.items (c.allows.ensures.0 c.if-not-allows.false)
    c.in-Err.refusal c.in-Err.ensures.refused)
