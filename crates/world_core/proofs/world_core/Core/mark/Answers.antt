use Rattle.std.proofs.Common.{rules, sym, subst, ap, ◌∙◌, length}
use Rattle.engine.specs.Refusals.{mark_refusal_of}
use Rattle.world_core.specs.declared.moves.Answer.TheVariants as answer
use Rattle.world_core.specs.Standing.{unless_refused}
use Rattle.world_core.specs.State.{State}
use Rattle.world_core.specs.Facts.{IsCoreAt}
use Rattle.world_core.proofs.Exact.{mark_refusal_is}
use Rattle.world_core.proofs.Playing.{mark_keeps}
use Rattle.world_core.proofs.world_core.Core.mark.Goals as goal
use Rattle.world_core.specs.declared.moves.Move.TheVariants as move
use Rattle.world_core.specs.Past.{Past, past_after}
use Rattle.world_core.proofs.Repeating.{refused_step}

pub returns-in-Some : goal.returns-in-Some
returns-in-Some g c = refused_step _ _ _ (λ past h.
    ap (λ r. unless_refused r (answer.Started (length past.history.ticks)))
    (c.in-Some.ensures.refusal ∙ ap (λ (s : State). mark_refusal_of s) c.self.view_is ∙ mark_refusal_is c.keeper_laws.ensures past c.args.self.now h))

keeps : (g : _) (c : goal.After-in_order g) (past : Past) → IsCoreAt past c.args.self.now → IsCoreAt (past_after past move.Mark (answer.Started c.begin_round-tick.result)) c.begin_round-tick.new.self
keeps g c past h =
    mark_keeps c.event_laws.ensures c.keeper_laws.ensures past c.self.inside.engine c.begin_round-tick.new.self c.begin_round-tick.result (subst (IsCoreAt past) (sym c.self.view_is) h)
    c.in_order.ensures c.in_default.ensures.allowed c.begin_round-tick.ensures.number c.begin_round-tick.ensures.begun

pub invariant_of-self : goal.invariant_of-self
invariant_of-self g c = (_, keeps g c c.self.invariant.0 (subst (IsCoreAt c.self.invariant.0) c.self.view_is c.self.invariant.1))

pub returns : goal.returns
returns g c = (let k = keeps g c in search rules)
