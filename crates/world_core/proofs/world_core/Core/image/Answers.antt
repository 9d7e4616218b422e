use Rattle.std.proofs.Common.{subst, ◌∙◌}
use Rattle.engine.specs.Fuses.{images_armed}
use Rattle.engine.specs.Steps.{TakesImageStep}
use Rattle.world_core.specs.State.{State, core_disk}
use Rattle.world_core.specs.Moving.{StepsImagesBy}
use Rattle.world_core.specs.Facts.{IsCoreAt}
use Rattle.world_core.proofs.Imaging.{image_keeps, image_progress, image_exact}
use Rattle.world_core.proofs.world_core.Core.image.Goals as goal
use Rattle.world_core.specs.declared.moves.Move.TheVariants as move
use Rattle.world_core.specs.declared.moves.Answer.TheVariants as answer
use Rattle.world_core.specs.Past.{Past, past_after}

stepped : (g : _) (c : goal.After-in_order g) → StepsImagesBy c.args.fate c.args.self.now c.step_images-given.result c.step_images-given.new.self
stepped g c = subst (λ (s : State). TakesImageStep core_disk s c.step_images-given.result c.step_images-given.new.self)
    (c.arm_images.ensures ∙ (λ i. images_armed (c.is_failed.ensures i) (c.self.view_is i))) c.step_images-given.ensures.steps

keeps : (g : _) (c : goal.After-in_order g) (past : Past) → IsCoreAt past c.args.self.now
    → IsCoreAt (past_after past (move.Image c.args.fate) (answer.Image c.step_images-given.result)) c.step_images-given.new.self
keeps g c past h = image_keeps c.event_laws.ensures _ _ _ _ _ h c.in_order.ensures (stepped g c)

pub invariant_of-self : goal.invariant_of-self
invariant_of-self g c = (_, keeps g c c.self.invariant.0 (subst (IsCoreAt c.self.invariant.0) c.self.view_is c.self.invariant.1))

pub returns : goal.returns
returns g c = record {
  keeps = keeps g c;
  exact = λ past h. image_exact past c.args.self.now c.step_images-given.new.self c.args.fate c.step_images-given.result h (stepped g c);
  does = stepped g c;
  progress = image_progress c.args.self.now c.step_images-given.new.self c.args.fate c.step_images-given.result (stepped g c);
  cells = (stepped g c).cells;
  refused = λ refusal is. cc;
}
