use Rattle.std.proofs.Common.{◌++◌, ◌∷◌, [], inl, inr, refl, sym, ap, ◌∙◌, append_assoc, arith}
use Rattle.std.proofs.lemmas.Result.{err_from_is_err_and}
use Rattle.std.proofs.lemmas.List.{append-nil, map-append}
use Rattle.action_log.specs.LogState.{listed}
use Rattle.action_log.proofs.ValueReadingLemmas.{read_start, read_next, read_none, read_all}
use Rattle.action_log.proofs.reader.ticks.read_group.Goals as goal

pub returns-in_default-clause-refused : goal.returns-in_default-clause-refused
returns-in_default-clause-refused c = inr (refl, c.in_default.ensures.none c.args.format)

pub loop-init : goal.loop-init
loop-init c = record { ticks = []; read = read_start; all_are = sym (append-nil (listed c.args.ticks.now.items)) }

pub returns-in_err-tick-clause-refused : goal.returns-in_err-tick-clause-refused
returns-in_err-tick-clause-refused c =
    let p = err_from_is_err_and c.from_residual.result c.from_residual.ensures.1 in
    rw (p.1, p.2) (elim c.in_err-tick.ensures.refused [
      | inl memory ↦ inl memory
      | inr bad ↦ inr (bad.0, c.in-Some.ensures.some c.args.format ∙ read_none c.loop.invariant.read (omega (arith, c.loop-test.true)) bad.1)
    ])

pub loop-preserved : goal.loop-preserved
loop-preserved c =
    let so_far = c.loop.invariant in
    let tick = c.in_ok-tick.tick in record {
      ticks = so_far.ticks ++ tick.items ∷ [];
      read = read_next so_far.read (omega (arith, c.loop-test.true)) c.in_ok-tick.ensures.read;
      all_are =
          ap listed c.in_ok-push.ensures.items ∙ map-append _ c.loop.ticks.items (tick ∷ []) ∙ ap (λ l. l ++ tick.items ∷ []) so_far.all_are
          ∙ append_assoc (listed c.args.ticks.now.items) so_far.ticks (tick.items ∷ []);
    }

pub returns-clause-read : goal.returns-clause-read
returns-clause-read c =
    let so_far = c.loop.invariant in
    (so_far.ticks, c.in-Some.ensures.some c.args.format ∙ read_all so_far.read (omega (arith, c.loop-test.false)), so_far.all_are)
