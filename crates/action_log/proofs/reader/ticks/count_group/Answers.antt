use Rattle.std.proofs.Common.{◌++◌, ◌∷◌, [], refl, ◌∙◌, arith}
use Rattle.action_log.proofs.ValueReadingLemmas.{read_start, read_next, read_none, read_all}
use Rattle.action_log.proofs.GroupReadingLemmas.{length-actions_of-with}
use Rattle.action_log.proofs.reader.ticks.count_group.Goals as goal

pub loop-init : goal.loop-init
loop-init c = record {
  ticks = [];
  read = read_start;
  actions_are = refl;
  few = omega arith;
}

pub returns-in_err-count-clause-none : goal.returns-in_err-count-clause-none
returns-in_err-count-clause-none c = rw c.from_residual.ensures (c.in_err-count.ensures.none c.args.format)

pub returns-in_err-more-clause-none : goal.returns-in_err-more-clause-none
returns-in_err-more-clause-none c =
    let so_far = c.loop.invariant in
    rw c.from_residual-in_err-more.ensures (c.in_ok-count.ensures.some c.args.format ∙ read_none so_far.read (omega (arith, c.loop-test.true)) c.in_err-more.ensures.none)

pub loop-preserved : goal.loop-preserved
loop-preserved c =
    let tick = c.in_ok-more.ensures.some in
    let so_far = c.loop.invariant in record {
      ticks = so_far.ticks ++ tick.0 ∷ [];
      read = read_next so_far.read (omega (arith, c.loop-test.true)) tick.1;
      actions_are = omega (arith, length-actions_of-with so_far.ticks tick.0, so_far.actions_are, tick.2);
      few = omega (arith, so_far.few, c.in_ok-more.ensures.most);
    }

pub returns-clause-some : goal.returns-clause-some
returns-clause-some c =
    let so_far = c.loop.invariant in (
      so_far.ticks,
      c.in_ok-count.ensures.some c.args.format ∙ read_all so_far.read (omega (arith, c.loop-test.false)),
      omega (arith, so_far.read.so_many, so_far.read.within, c.loop-test.false),
      so_far.actions_are,
    )
