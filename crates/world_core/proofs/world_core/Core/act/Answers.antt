use Rattle.std.proofs.Common.{sym, subst, ap, ◌∙◌}
use Rattle.engine.specs.Refusals.{tick_refusal_of}
use Rattle.world_core.specs.declared.moves.Move.TheVariants as move
use Rattle.world_core.specs.Past.{past_after}
use Rattle.world_core.specs.State.{State}
use Rattle.world_core.specs.Facts.{IsCoreAt}
use Rattle.world_core.proofs.Exact.{refused_action}
use Rattle.world_core.proofs.Playing.{action_keeps}
use Rattle.world_core.proofs.world_core.Core.act.Goals as goal
use Rattle.world_core.specs.declared.moves.Answer.TheVariants as answer
use Rattle.world_core.specs.Past.{Past, past_after}
use Rattle.world_core.proofs.Repeating.{refused_step}
use Rattle.std.proofs.Common.{rules}

pub returns-in-Some : goal.returns-in-Some
returns-in-Some g c = refused_step _ _ _ (λ past h.
    refused_action c.keeper_laws.ensures past c.args.self.now c.args.action _ h (c.in-Some.ensures.refusal ∙ ap (λ (s : State). tick_refusal_of s) c.self.view_is))

pub invariant_of-self : goal.invariant_of-self
invariant_of-self g c = (_, subst (IsCoreAt c.self.invariant.0) (sym c.in-Err.ensures.unchanged) c.self.invariant.1)

pub returns-in-Err : goal.returns-in-Err
returns-in-Err g c =
    let keeps : (past : Past) → IsCoreAt past c.args.self.now → IsCoreAt past c.act.new.self = λ past h. subst (IsCoreAt past) (sym (c.in-Err.ensures.unchanged ∙ c.self.view_is)) h in
    search rules

keeps : (g : _) (c : goal.After-in_order g) (past : Past) → IsCoreAt past c.self.inside.engine → IsCoreAt (past_after past (move.Act c.args.action) answer.Did) c.act.new.self
keeps g c past h = action_keeps c.event_laws.ensures past c.self.inside.engine c.act.new.self c.args.action h c.in_order.ensures c.in_default.ensures.room.0 c.in_default-act.ensures.done

pub invariant_of-self-2 : goal.invariant_of-self-2
invariant_of-self-2 g c = (_, keeps g c c.self.invariant.0 c.self.invariant.1)

pub returns : goal.returns
returns g c = (let k = λ (past : Past) (h : IsCoreAt past c.args.self.now). keeps g c past (subst (IsCoreAt past) (sym c.self.view_is) h) in search rules)
