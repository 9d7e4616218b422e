use Rattle.std.proofs.Common.{refl, sym, ap, subst, arith}
use Rattle.image_files.specs.declared.answer.ImageAnswer.TheVariants as image_answer
use Rattle.image_files.specs.Progress.{left_of}
use Rattle.world_core.specs.declared.moves.Move.TheVariants as move
use Rattle.world_core.specs.declared.moves.Answer.TheVariants as answer
use Rattle.world_core.proofs.Repeating.{SoFar, as_image, step_goes_on}
use Rattle.world_core.proofs.Settling.{images_ended}
use Rattle.world_core.proofs.world_core.Core.run_images.Goals as goal

pub returns-in-Idle : goal.returns-in-Idle
returns-in-Idle g c = record { repeats = λ past h. images_ended _ _ _ _ _ _ _ _ (c.loop-reported.invariant past h) (as_image _ _ _ _ _ c.image-given.ensures c.in-Idle.is) refl }

pub returns-in-Down : goal.returns-in-Down
returns-in-Down g c = record {
  repeats = λ past h. images_ended _ _ _ _ _ _ _ _ (c.loop-reported.invariant past h) (as_image _ _ _ _ _ c.image-given.ensures c.in-Down.is) (ap (λ r. answer.Image r) c.in-Down.is);
}

pub loop-reported-preserved-in-Working : goal.loop-reported-preserved-in-Working
loop-reported-preserved-in-Working g c =
    let step = as_image _ _ _ _ _ c.image-given.ensures c.in-Working.is in
    λ past h. step_goes_on _ _ _ _ _ _ _ _ (c.loop-reported.invariant past h) _ _ step _ tt step.progress

pub loop-reported-preserved : goal.loop-reported-preserved
loop-reported-preserved g c =
    let step = as_image _ _ _ _ _ c.image-given.ensures c.in-Opened.is in
    λ past h.
    subst (λ r. SoFar (move.Image c.args.fate) (answer.Image image_answer.Idle) (left_of c.args.self.now.images)
    (left_of c.image-given.new.self.images) past c.args.self.now (answer.Image r) c.image-given.new.self) (sym c.in-Opened.is)
    (step_goes_on _ _ _ _ _ _ _ _ (c.loop-reported.invariant past h) _ _ step _ tt (let p = step.progress in omega (arith, p.0, p.1)))
