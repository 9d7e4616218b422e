use Rattle.std.proofs.Common.{inr, sym, ap, subst, ◌∙◌}
use Rattle.engine.specs.Fuses.{log_armed}
use Rattle.engine.specs.Steps.{TakesLogStep}
use Rattle.world_core.specs.State.{State, core_disk}
use Rattle.world_core.specs.Moving.{StepsLogBy}
use Rattle.world_core.specs.Facts.{IsCoreAt}
use Rattle.world_core.proofs.Exact.{no_wait, waiting_is}
use Rattle.world_core.proofs.Logging.{log_keeps}
use Rattle.world_core.proofs.LogExact.{log_progress, log_exact}
use Rattle.world_core.proofs.world_core.Core.log.Goals as goal
use Rattle.world_core.specs.declared.moves.Move.TheVariants as move
use Rattle.world_core.specs.declared.moves.Answer.TheVariants as answer
use Rattle.world_core.specs.Past.{Past, past_after}

stepped : (g : _) (c : goal.After-in_order g) → StepsLogBy c.args.fate c.args.self.now c.step_log-given.result c.step_log-given.new.self
stepped g c = subst (λ (s : State). TakesLogStep core_disk s c.step_log-given.result c.step_log-given.new.self)
    (c.arm_log.ensures ∙ (λ i. log_armed (c.is_failed.ensures i) (c.self.view_is i))) c.step_log-given.ensures.steps

keeps : (g : _) (c : goal.After-in_order g) (past : Past) → IsCoreAt past c.args.self.now
    → IsCoreAt (past_after past (move.Log c.args.fate) (answer.Log c.step_log-given.result)) c.step_log-given.new.self
keeps g c past h =
    log_keeps c.event_laws.ensures _ _ _ _ _ h c.in_order.ensures (no_wait c.keeper_laws.ensures _ _ h (sym c.log_waits.ensures ∙ c.if-log_waits.false)) (stepped g c)

pub invariant_of-self : goal.invariant_of-self
invariant_of-self g c = (_, keeps g c c.self.invariant.0 (subst (IsCoreAt c.self.invariant.0) c.self.view_is c.self.invariant.1))

pub returns : goal.returns
returns g c = record {
  keeps = keeps g c;
  exact = λ past h. log_exact c.event_laws.ensures _ _ _ _ _ h (sym (waiting_is c.keeper_laws.ensures _ _ h) ∙ sym c.log_waits.ensures ∙ c.if-log_waits.false) (stepped g c);
  does = inr (stepped g c);
  progress = log_progress c.args.self.now c.step_log-given.new.self c.args.fate c.step_log-given.result (stepped g c);
  cells = ap (λ (s : State). s.images.cells) (stepped g c).rest;
  refused = λ refusal is. cc;
}
