use Rattle.std.proofs.Common.{◌≡◌, false, take}
use Rattle.action_log.specs.Cover.{has_tick}
use Rattle.action_log.proofs.cover.has_tick_before.Given as goal

-- no tick so far
abbrev pub invariant-loop-i : goal.invariant-loop-i
invariant-loop-i l = has_tick (take l.i l.queue.items) ≡ false
