use Rattle.std.proofs.Common.{rules, ◌∙◌, refl, ap, inl}
use Rattle.image_files.specs.Progress.{Progress}
use Rattle.trial_crashes.proofs.image_trial.ImageTrial.step.Goals as goal

pub invariant_of-self-in-Opened-2 : goal.invariant_of-self-in-Opened-2
invariant_of-self-in-Opened-2 g c =
    let inv = c.self.invariant in
    let next = c.step-answer.ensures.stands refl inv.1.0 inv.1.1 in
    ((λ e. search (rules, c.step-answer.ensures.ended, c.in-Opened.is)), (next.0, next.1))

pub invariant_of-self-in_default : goal.invariant_of-self-in_default
invariant_of-self-in_default g c =
    let inv = c.self.invariant in
    let next = c.step-answer.ensures.stands refl inv.1.0 inv.1.1 in
    ((λ e. ap (λ (k : Progress). k.phase) (c.step-answer.ensures.rests (inl (inv.0 e))).0 ∙ inv.0 e), (next.0, next.1))
