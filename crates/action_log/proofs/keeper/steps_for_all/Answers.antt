use Rattle.std.proofs.Common.{sym, arith}
use Rattle.action_log.proofs.QueueLemmas.{queue_work_push}
use Rattle.action_log.proofs.keeper.steps_for_all.Goals as goal

pub loop-queued-preserved : goal.loop-queued-preserved
loop-queued-preserved c =
    let invariant = c.loop-queued.invariant in
    let next = queue_work_push c.args.records.now c.loop-queued.queued-index c.queued-item.result c.loop-queued-test.true (sym c.queued-item.is) in
    (omega (arith, invariant.0, c.steps_for-steps.ensures.steps, next), omega (arith, invariant.1, c.steps_for-steps.ensures.few))
