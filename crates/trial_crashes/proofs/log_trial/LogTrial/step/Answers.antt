use Rattle.std.proofs.Common.{refl}
use Rattle.trial_crashes.proofs.log_trial.LogTrial.step.Goals as goal

pub invariant_of-self : goal.invariant_of-self
invariant_of-self c =
    let inv = c.self.invariant in
    let next = c.step-answer.ensures.journal refl inv.1.0 inv.1.1 in
    (c.step-answer.ensures.follows, (next.0, next.1))

pub invariant_of-self-in_default : goal.invariant_of-self-in_default
invariant_of-self-in_default c =
    let inv = c.self.invariant in
    let next = c.step-answer.ensures.journal refl inv.1.0 inv.1.1 in
    (c.step-answer.ensures.follows, (next.0, next.1))
