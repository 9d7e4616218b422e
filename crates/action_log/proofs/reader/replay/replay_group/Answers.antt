use Rattle.std.proofs.Common.{◌++◌, ◌∷◌, [], ◌∙◌, refl, sym, arith}
use Rattle.std.proofs.lemmas.Result.{err_from_is_err_and}
use Rattle.action_log.proofs.ReplayLemmas.{none_at, tick_done, group_stops}
use Rattle.action_log.proofs.ValueReadingLemmas.{read_start, read_next, read_all}
use Rattle.action_log.proofs.reader.replay.replay_group.Goals as goal

pub returns-in_default-clause-refused : goal.returns-in_default-clause-refused
returns-in_default-clause-refused g c = (refl, λ ticks rest e. none_at (c.in_default.ensures.none c.args.format) e)

pub loop-init : goal.loop-init
loop-init g c = record { ticks = []; read = read_start; done = refl }

pub returns-in_err-rest-clause-refused : goal.returns-in_err-rest-clause-refused
returns-in_err-rest-clause-refused g c =
    let p = err_from_is_err_and c.from_residual.result c.from_residual.ensures.1 in
    let refused = c.in_err-rest.ensures.refused in
    rw (p.1, p.2) (
      refused.0,
      λ ticks rest e.
          group_stops c.args.format (g.C.Cells.words c.args.c.now) (omega (arith, c.loop-test.true)) c.loop.invariant.read
          c.loop.invariant.done refused.1 ticks rest (sym (c.in-Some.ensures.some c.args.format) ∙ e),
    )

pub loop-preserved : goal.loop-preserved
loop-preserved g c =
    let so_far = c.loop.invariant in
    let tick = c.in_ok-rest.ensures.done in record {
      ticks = so_far.ticks ++ tick.0 ∷ [];
      read = read_next so_far.read (omega (arith, c.loop-test.true)) tick.1;
      done = tick_done (g.C.Cells.words c.args.c.now) (g.C.Cells.words c.loop.c) (g.C.Cells.words c.replay_tick.new.c) so_far.ticks tick.0 so_far.done tick.2;
    }

pub returns-clause-done : goal.returns-clause-done
returns-clause-done g c =
    let so_far = c.loop.invariant in (
      so_far.ticks,
      c.in-Some.ensures.some c.args.format ∙ read_all so_far.read (omega (arith, c.loop-test.false)),
      omega (arith, so_far.read.so_many, so_far.read.within, c.loop-test.false),
      so_far.done,
    )
