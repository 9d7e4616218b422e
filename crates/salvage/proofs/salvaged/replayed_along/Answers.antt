use Rattle.std.proofs.Common.{◌≡◌, inl, inr, [], Ok, Err, subst}
use Rattle.world_actions.specs.declared.refusal.Refusal.TheVariants.{NoMemory}
use Rattle.recovery.specs.Recovery.{Recovers}
use Rattle.recovery.specs.Recovered.{recovery_of_answer}
use Rattle.salvage.proofs.Along.{first_not_refused, first_reaches, if_err}
use Rattle.salvage.proofs.salvaged.replayed_along.Goals as goal

pub returns-in_err-reached-clause-memory : goal.returns-in_err-reached-clause-memory
returns-in_err-reached-clause-memory c =
    let ia = c.args.images.a.now in
    let ib = c.args.images.b.now in
    let n = recovery_of_answer c.args.newest in
    let part = c.replayed_part-part.result in
    let refusal = c.in_err-reached.field-0.0 in
    let none : refusal ≡ NoMemory = elim c.in_err-reached.ensures.refused [
      | inl none ↦ none
      | inr e ↦ absurd (first_not_refused ia ib c.args.first.bytes.now n c.args.first.part part c.requires.newest c.requires.first c.replayed_part-part.ensures.part refusal
          (subst (λ l. Recovers ia ib l [] (Err refusal)) c.kept.ensures e))
    ] in
    if_err c.from_residual.result refusal (λ e. e ≡ NoMemory) c.from_residual.ensures.1 none

pub returns-clause-replayed : goal.returns-clause-replayed
returns-clause-replayed c =
    let ia = c.args.images.a.now in
    let ib = c.args.images.b.now in
    let n = recovery_of_answer c.args.newest in
    let part = c.replayed_part-part.result in
    let reached = recovery_of_answer c.in_ok-reached.reached in
    record {
      first_is = c.replayed_part-part.ensures.part;
      reached = reached.tick;
      reached_words = reached.words;
      reaches = first_reaches ia ib c.args.first.bytes.now n c.args.first.part part c.requires.newest c.requires.first c.replayed_part-part.ensures.part reached
          (subst (λ l. Recovers ia ib l [] (Ok reached)) c.kept.ensures c.in_ok-reached.ensures.recovered);
      second_is = c.replayed_part-next.ensures.part;
    }
