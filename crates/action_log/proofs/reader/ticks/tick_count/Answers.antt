use Rattle.std.proofs.Common.{inl, inr}
use Rattle.action_log.specs.declared.format.TheConstants.{GROUP_TICKS}
use Rattle.action_log.specs.Reading.{tick_at}
use Rattle.action_log.proofs.ValueReadingLemmas.{counted_none, counted_outside, counted_inside}
use Rattle.action_log.proofs.reader.ticks.tick_count.Goals.{then-count-lt1-via-then-count-lt1, then-count-lt1-via-else-count-lt1+then-count-gt-GROUP_TICKS}
use Rattle.action_log.proofs.reader.ticks.tick_count.Goals as goal

pub returns-in_err-count-clause-none : goal.returns-in_err-count-clause-none
returns-in_err-count-clause-none c = rw c.from_residual.ensures (λ format. counted_none (tick_at format) 1 GROUP_TICKS c.args.bytes.now c.in_err-count.ensures)

pub returns-then-count-lt1-clause-none : goal.returns-then-count-lt1-clause-none
returns-then-count-lt1-clause-none c = λ format.
    counted_outside (tick_at format) 1 GROUP_TICKS c.in_ok-count.count c.args.bytes.now c.in_ok-count.rest.now c.in_ok-count.ensures
    (elim c.then-count-lt1.branch [
      | then-count-lt1-via-then-count-lt1 w ↦ inl w.if-count-lt1.true
      | then-count-lt1-via-else-count-lt1+then-count-gt-GROUP_TICKS w ↦ inr w.if-count-gt-GROUP_TICKS.true
    ])

pub returns-clause-some : goal.returns-clause-some
returns-clause-some c = λ format.
    counted_inside (tick_at format) 1 GROUP_TICKS c.in_ok-count.count c.args.bytes.now c.in_ok-count.rest.now c.in_ok-count.ensures c.if-count-lt1.false c.if-count-gt-GROUP_TICKS.false
