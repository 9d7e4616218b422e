use Rattle.std.proofs.Common.{inr, arith}
use Rattle.world_ticks.specs.declared.tick.TheConstants.{TICK_ACTIONS}
use Rattle.action_log.specs.Reading.{action_at}
use Rattle.action_log.proofs.ValueReadingLemmas.{counted_none, counted_outside, counted_inside}
use Rattle.action_log.proofs.reader.ticks.action_count.Goals as goal

pub returns-in_err-count-clause-none : goal.returns-in_err-count-clause-none
returns-in_err-count-clause-none c = rw c.from_residual.ensures (λ format. counted_none (action_at format) 0 TICK_ACTIONS c.args.bytes.now c.in_err-count.ensures)

pub returns-then-count-gt-TICK_ACTIONS-clause-none : goal.returns-then-count-gt-TICK_ACTIONS-clause-none
returns-then-count-gt-TICK_ACTIONS-clause-none c = λ format.
    counted_outside (action_at format) 0 TICK_ACTIONS c.in_ok-count.count c.args.bytes.now c.in_ok-count.rest.now c.in_ok-count.ensures (inr c.if-count-gt-TICK_ACTIONS.true)

pub returns-clause-some : goal.returns-clause-some
returns-clause-some c = λ format.
    counted_inside (action_at format) 0 TICK_ACTIONS c.in_ok-count.count c.args.bytes.now c.in_ok-count.rest.now c.in_ok-count.ensures (omega arith) c.if-count-gt-TICK_ACTIONS.false
