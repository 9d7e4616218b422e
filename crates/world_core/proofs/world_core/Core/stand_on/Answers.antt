use Rattle.std.proofs.Common.{Ok, Err, None, sym, subst, ◌∙◌}
use Rattle.world_actions.specs.declared.refusal.Refusal.TheVariants.{NoImage}
use Rattle.recovery.specs.Recovered.{recovery_of_answer}
use Rattle.world_core.specs.Starting.{Begins}
use Rattle.world_core.proofs.Recovering.{recovery_same, recovered_newest, found_none}
use Rattle.world_core.proofs.world_core.Core.stand_on.Goals as goal

pub begin-requires-clause-newest : goal.begin-requires-clause-newest
begin-requires-clause-newest g c =
    let left = c.args.left in
    let r = recovery_of_answer c.in-Ok.found in
    recovered_newest c.safety_laws.ensures left.image_a.items left.image_b.items left.log_a.items left.log_b.items r c.deref-in-Ok.result.now
    (recovery_same c.deref.result.now c.deref-2.result.now c.deref-3.result.now c.deref-4.result.now left.image_a.items left.image_b.items left.log_a.items left.log_b.items (Ok r)
    c.deref.ensures.value c.deref-2.ensures.value c.deref-3.ensures.value c.deref-4.ensures.value c.in-Ok.ensures.recovered) (sym c.deref-in-Ok.ensures.value)

pub returns-in_ok-engine-in-Err-NoImage-clause-stands : goal.returns-in_ok-engine-in-Err-NoImage-clause-stands
returns-in_ok-engine-in-Err-NoImage-clause-stands g c =
    let left = c.args.left in (
      recovery_same c.deref.result.now c.deref-2.result.now c.deref-3.result.now c.deref-4.result.now left.image_a.items left.image_b.items left.log_a.items left.log_b.items (Err NoImage)
          c.deref.ensures.value c.deref-2.ensures.value c.deref-3.ensures.value c.deref-4.ensures.value
          (found_none c.in-Err-NoImage.field-0 c.deref.result.now c.deref-2.result.now c.deref-3.result.now c.deref-4.result.now c.in-Err-NoImage.field-0-is c.in-Err-NoImage.ensures.refused),
      subst (λ w. Begins None 0 w left.image_a.items left.image_b.items left.log_a.items left.log_b.items c.in_ok-engine-in-Err-NoImage.engine)
          (c.deref-in-Err-NoImage.ensures.value ∙ c.in_ok-words-in-Err-NoImage.ensures.zeros) c.in_ok-engine-in-Err-NoImage.ensures.begins,
    )
