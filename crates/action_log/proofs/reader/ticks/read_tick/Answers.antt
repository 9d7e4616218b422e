use Rattle.std.proofs.Common.{◌∷◌, [], inr, refl, sym, ap, ◌∙◌, arith, rules, length, length-append}
use Rattle.action_log.proofs.ValueReadingLemmas.{read_start, read_next, read_none, read_all}
use Rattle.action_log.proofs.reader.ticks.read_tick.Goals as goal

pub returns-in_default-clause-refused : goal.returns-in_default-clause-refused
returns-in_default-clause-refused c = inr (refl, c.in_default.ensures.none c.args.format)

pub loop-init : goal.loop-init
loop-init c = record { room = search (rules, arith); read = rw c.in_ok-tick.ensures.items read_start }

pub returns-in_default-read_action-clause-refused : goal.returns-in_default-read_action-clause-refused
returns-in_default-read_action-clause-refused c =
    inr (refl, c.in-Some.ensures.some c.args.format ∙ read_none c.loop.invariant.read (omega (arith, c.loop-test.true)) (sym c.in_default-read_action.ensures))

pub loop-preserved : goal.loop-preserved
loop-preserved c = record {
  room = omega (
    arith,
    c.loop.invariant.room,
    c.loop-test.true,
    c.push_reserved.ensures.capacity,
    ap length c.push_reserved.ensures.items,
    length-append c.loop.tick.items (c.in-Some-read_action.action ∷ []),
  );
  read = rw c.push_reserved.ensures.items (read_next c.loop.invariant.read (omega (arith, c.loop-test.true)) (sym c.in-Some-read_action.ensures));
}

pub returns-clause-read : goal.returns-clause-read
returns-clause-read c = c.in-Some.ensures.some c.args.format ∙ read_all c.loop.invariant.read (omega (arith, c.loop-test.false))
