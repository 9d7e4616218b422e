use Rattle.world_core.specs.State.{State}
use Rattle.std.proofs.Common.{sym, ap, subst, ◌∙◌}
use Rattle.world_core.specs.Facts.{IsCoreAt}
use Rattle.world_core.specs.Exact.{IsCoverAnswer}
use Rattle.world_core.specs.declared.moves.Answer.TheVariants as answer
use Rattle.world_core.proofs.Covering.{cover_keeps, cover_exact, cover_refused, cover_progress}
use Rattle.world_core.proofs.world_core.Core.cover.Goals as goal
use Rattle.world_core.specs.declared.moves.Move.TheVariants as move
use Rattle.world_core.specs.Past.{Past, past_after}
use Rattle.world_core.proofs.Repeating.{refused_step}
use Rattle.world_core.specs.Stepped.{Stepped}

keeps : (g : _) (c : goal.After-in_order g) (past : Past) → IsCoreAt past c.self.inside.engine
    → IsCoreAt (past_after past (move.Cover c.args.tick) (answer.Log c.cover-given.result)) c.cover-given.new.self
keeps g c past h =
    cover_keeps c.event_laws.ensures c.keeper_laws.ensures _ _ _ _ _ h c.in_default.ensures.allowed.0 c.in_default.ensures.allowed.1 c.cover-given.ensures c.in_order.ensures

pub invariant_of-self : goal.invariant_of-self
invariant_of-self g c = (_, keeps g c c.self.invariant.0 c.self.invariant.1)

pub returns : goal.returns
returns g c = subst (λ s. Stepped (move.Cover c.args.tick) s (answer.Log c.cover-given.result) c.cover-given.new.self) c.self.view_is (record {
  keeps = keeps g c;
  exact = λ past h.
      cover_exact c.event_laws.ensures c.keeper_laws.ensures _ _ _ _ _ h
      c.in_default.ensures.allowed.0 c.in_default.ensures.allowed.1 c.cover-given.ensures (sym c.in_default.is ∙ c.cover_refusal.ensures.refusal);
  does = c.cover-given.ensures;
  progress = cover_progress _ _ _ _ c.cover-given.ensures;
  cells = ap (λ (s : State). s.images.cells) c.cover-given.ensures.rest;
  refused = λ refusal is. cc;
})

pub returns-in-Some : goal.returns-in-Some
returns-in-Some g c = refused_step _ _ _ (λ past h.
    subst (λ s. IsCoverAnswer past s c.args.tick (answer.Refused c.in-Some.refusal)) c.self.view_is
    (cover_refused c.keeper_laws.ensures _ _ _ _ (subst (IsCoreAt past) (sym c.self.view_is) h) (sym c.in-Some.is ∙ c.cover_refusal.ensures.refusal)))
