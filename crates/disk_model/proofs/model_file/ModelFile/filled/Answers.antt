use Rattle.std.proofs.Common.{◌++◌, ◌∷◌, [], sym, ap, subst, ◌∙◌, take, length, arith}
use Rattle.disk_model.specs.CrashOutcome.{IsCrashOutcome}
use Rattle.disk_model.specs.Leaving.{filled}
use Rattle.disk_model.proofs.LeavingLemmas.{filled_more, filled_whole, filled_allowed}
use Rattle.disk_model.proofs.model_file.ModelFile.filled.Goals as goal

pub loop-place-preserved : goal.loop-place-preserved
loop-place-preserved c =
    let end = ap length c.now-place-end.ensures in
    c.in_ok-push.ensures.items ∙ ap (λ l. l ++ c.filled_at.result ∷ []) c.loop-place.invariant
    ∙ ap (λ b. take c.loop-place.place (filled c.args.byte c.args.self.now.durable c.args.self.now.unsynced) ++ b ∷ []) c.filled_at.ensures
    ∙ sym (filled_more c.args.byte c.args.self.now c.loop-place.place (omega (arith, c.loop-place-test.true, end)))

pub returns-clause-filled : goal.returns-clause-filled
returns-clause-filled c =
    let end = ap length c.now-place-end.ensures in
    c.loop-place.invariant ∙ filled_whole c.args.byte c.args.self.now c.loop-place.place (omega (arith, c.loop-place-test.false, end))

pub returns-clause-allowed : goal.returns-clause-allowed
returns-clause-allowed c =
    let end = ap length c.now-place-end.ensures in
    subst (IsCrashOutcome c.args.self.now) (sym (c.loop-place.invariant ∙ filled_whole c.args.byte c.args.self.now c.loop-place.place (omega (arith, c.loop-place-test.false, end))))
    (filled_allowed c.args.byte c.args.self.now c.ranges.byte.fits)
