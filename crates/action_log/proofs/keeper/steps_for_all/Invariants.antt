use Rattle.std.proofs.Common.{◌≡◌, ◌*◌, ◌≤◌, take}
use Rattle.action_log.specs.Queue.{queue_work}
use Rattle.action_log.proofs.keeper.steps_for_all.Given as goal

abbrev pub invariant-loop-queued : goal.invariant-loop-queued
invariant-loop-queued l = (l.steps ≡ queue_work (take l.queued-index l.records)) × (l.steps ≤ 6 * l.queued-index)
