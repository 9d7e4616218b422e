use Rattle.std.proofs.lemmas.Result.{err_from_is_err_and}
use Rattle.std.proofs.Common.{◌++◌, ◌∷◌, [], ◌∙◌, refl, sym, arith}
use Rattle.action_log.proofs.ReplayLemmas.{done_then, none_at, tick_stops}
use Rattle.action_log.proofs.ValueReadingLemmas.{read_start, read_next, read_none, read_all}
use Rattle.action_log.proofs.reader.replay.replay_tick.Goals as goal

pub returns-in_default-clause-refused : goal.returns-in_default-clause-refused
returns-in_default-clause-refused g c = (refl, λ tick rest e. none_at (c.in_default.ensures.none c.args.format) e)

pub loop-init : goal.loop-init
loop-init g c = record { tick = []; read = read_start; done = refl }

pub returns-in_default-read_action-clause-refused : goal.returns-in_default-read_action-clause-refused
returns-in_default-read_action-clause-refused g c =
    let none = read_none c.loop.invariant.read (omega (arith, c.loop-test.true)) (sym c.in_default-read_action.ensures) in
    (refl, λ tick rest e. none_at (c.in-Some.ensures.some c.args.format ∙ none) e)

pub returns-in_err-replay-clause-refused : goal.returns-in_err-replay-clause-refused
returns-in_err-replay-clause-refused g c =
    let p = err_from_is_err_and c.from_residual.result c.from_residual.ensures.1 in
    let so_far = c.loop.invariant in
    let refused = c.in_err-replay.ensures.refused in
    rw (p.1, p.2) (
      refused.0,
      λ tick rest e.
          tick_stops c.args.format (g.C.Cells.words c.args.c.now) (omega (arith, c.loop-test.true)) (sym c.in-Some-read_action.ensures)
          so_far.read so_far.done refused.1 tick rest (sym (c.in-Some.ensures.some c.args.format) ∙ e),
    )

pub loop-preserved : goal.loop-preserved
loop-preserved g c =
    let so_far = c.loop.invariant in
    let action = c.in-Some-read_action.action in record {
      tick = so_far.tick ++ action ∷ [];
      read = read_next so_far.read (omega (arith, c.loop-test.true)) (sym c.in-Some-read_action.ensures);
      done = done_then (g.C.Cells.words c.args.c.now) (g.C.Cells.words c.loop.c) (g.C.Cells.words c.replay.new.c) so_far.tick (action ∷ []) so_far.done c.in_ok-replay.ensures.done;
    }

pub returns-clause-done : goal.returns-clause-done
returns-clause-done g c =
    (c.loop.invariant.tick, c.in-Some.ensures.some c.args.format ∙ read_all c.loop.invariant.read (omega (arith, c.loop-test.false)), c.loop.invariant.done)
