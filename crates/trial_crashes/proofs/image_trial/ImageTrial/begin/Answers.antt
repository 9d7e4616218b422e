use Rattle.std.proofs.Common.{sym, subst}
use Rattle.disk_model.specs.CrashOutcome.{IsCrashOutcome}
use Rattle.image_files.specs.Images.{with_round}
use Rattle.image_files.specs.Files.{Stands}
use Rattle.trial_crashes.proofs.image_trial.ImageTrial.begin.Goals as goal

pub invariant_of-self-2 : goal.invariant_of-self-2
invariant_of-self-2 g c =
    let inv = c.self.invariant in
    let a = c.self.inside.image_a in
    let b = c.self.inside.image_b in
    let next = with_round c.args.tick inv.1.0 in
    let begun = c.images_stay.ensures.begun c.self.inside.keeper c.args.tick inv.1.0 a b (inv.0 c.if-self.false) c.requires inv.1.1 in
    ((λ e. absurd (let h = e in cc)), (next, subst (λ k. Stands k next a.inner.content b.inner.content (IsCrashOutcome a.inner) (IsCrashOutcome b.inner)) (sym c.begin.ensures.begun) begun))
