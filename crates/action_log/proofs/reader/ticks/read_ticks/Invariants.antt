use Rattle.std.proofs.Common.{length}
use Rattle.action_log.specs.LogState.{listed}
use Rattle.action_log.proofs.GroupReadingLemmas.{AreGroupsListed}
use Rattle.action_log.proofs.reader.ticks.read_ticks.Given as goal

-- this number of groups is read
abbrev pub invariant-loop-group : goal.invariant-loop-group
invariant-loop-group l = AreGroupsListed l.format l.bytes l.rest (listed l.ticks.items)

abbrev pub decreases-loop-group : goal.decreases-loop-group
decreases-loop-group l = length l.rest
