use Rattle.std.proofs.Common.{◌≡◌, ◌⊎◌, inl, inr, refl, Ok, Err, ap, subst, sym, ◌∙◌}
use Rattle.world_actions.specs.declared.refusal.Refusal.TheVariants.{NoMemory, NoImage}
use Rattle.image_files.specs.Image.{image_of}
use Rattle.image_files.specs.Reading.{IsOpenImage}
use Rattle.recovery.specs.Recovered.{recovery_of_answer}
use Rattle.salvage.specs.Parts.{kept_image, kept_log}
use Rattle.salvage.specs.Salvage.{AreReplayedInOrder}
use Rattle.salvage.proofs.Along.{not_refused, if_err}
use Rattle.salvage.proofs.Whole.{kept_good, taken_answers, taken_whole, one_answer, recovers_on}
use Rattle.salvage.proofs.salvaged.salvage.Goals as goal

pub replayed_parts-requires-clause-image_a : goal.replayed_parts-requires-clause-image_a
replayed_parts-requires-clause-image_a c = λ bad. kept_good c.args.image_a.now c.in_ok-image_part_a.image_part_a c.in_ok-image_part_a.ensures.part (ap image_of (sym c.kept.ensures) ∙ bad)

pub replayed_parts-requires-clause-image_b : goal.replayed_parts-requires-clause-image_b
replayed_parts-requires-clause-image_b c = λ bad. kept_good c.args.image_b.now c.in_ok-image_part_b.image_part_b c.in_ok-image_part_b.ensures.part (ap image_of (sym c.kept-2.ensures) ∙ bad)

pub returns-in_err-found-clause-refused : goal.returns-in_err-found-clause-refused
returns-in_err-found-clause-refused c =
    let ia = c.kept.result.now in
    let ib = c.kept-2.result.now in
    let la = c.args.log_a.now in
    let lb = c.args.log_b.now in
    let pa = c.in_ok-log_part_a.log_part_a in
    let pb = c.in_ok-log_part_a.log_part_b in
    let refusal = c.in_err-found.field-0.0 in
    let x = taken_answers ia ib la lb c.formed_part.result c.formed_part-2.result pa pb
    c.formed_part.ensures.kept c.formed_part-2.ensures.kept c.in_ok-log_part_a.ensures.replayed in
    let none : refusal ≡ NoMemory = elim c.in_err-found.ensures.refused [
      | inl none ↦ none
      | inr e ↦ absurd (not_refused ia ib (kept_log pa la) (kept_log pb lb) x.newest _ _ x.kept_a.reads x.kept_b.reads x.answers refusal
          (recovers_on (Err refusal) refl refl c.kept-kept_a.ensures c.kept-kept_b.ensures e))
    ] in
    if_err c.from_residual-in_err-found.result refusal (λ e. (e ≡ NoMemory) ⊎ ((e ≡ NoImage) × ¬ IsOpenImage (image_of c.args.image_a.now) × ¬ IsOpenImage (image_of c.args.image_b.now)))
    c.from_residual-in_err-found.ensures.1 (inl none)

pub returns-clause-accepted : goal.returns-clause-accepted
returns-clause-accepted c = λ r e.
    let ipa = c.in_ok-image_part_a.image_part_a in
    let ipb = c.in_ok-image_part_b.image_part_b in
    let ia = c.args.image_a.now in
    let ib = c.args.image_b.now in
    let la = c.args.log_a.now in
    let lb = c.args.log_b.now in
    let fa = c.formed_part.result in
    let fb = c.formed_part-2.result in
    let pa = c.in_ok-log_part_a.log_part_a in
    let pb = c.in_ok-log_part_a.log_part_b in
    let found = recovery_of_answer c.in_ok-found.found in
    let order : AreReplayedInOrder (kept_image ipa ia) (kept_image ipb ib) la lb fa fb pa pb =
    subst (λ i. AreReplayedInOrder i (kept_image ipb ib) la lb fa fb pa pb) c.kept.ensures
    (subst (λ i. AreReplayedInOrder c.kept.result.now i la lb fa fb pa pb) c.kept-2.ensures c.in_ok-log_part_a.ensures.replayed) in
    let w = taken_whole ia ib la lb ipa ipb fa fb pa pb c.in_ok-image_part_a.ensures.part c.in_ok-image_part_b.ensures.part
    c.formed_part.ensures.part c.formed_part-2.ensures.part c.formed_part.ensures.kept order r e in (
      one_answer ia ib la lb found r
          (recovers_on (Ok found) (c.kept.ensures ∙ w.image_a_is) (c.kept-2.ensures ∙ w.image_b_is)
          (c.kept-kept_a.ensures ∙ w.log_a_is) (c.kept-kept_b.ensures ∙ w.log_b_is) c.in_ok-found.ensures.recovered) e,
      w.all,
    )
