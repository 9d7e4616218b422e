use Rattle.std.proofs.Common.{◌≡◌, take}
use Rattle.std.specs.Prelude.{None}
use Rattle.action_log.specs.Cover.{switch_place}
use Rattle.action_log.proofs.cover.switch_place.Given as goal

-- no such switch so far
abbrev pub invariant-loop-i : goal.invariant-loop-i
invariant-loop-i l = switch_place l.tick (take l.i l.queue.items) ≡ None
