use Rattle.std.proofs.Common.{length}
use Rattle.action_log.proofs.ExtentLemmas.{IsCounted}
use Rattle.action_log.proofs.reader.extent.behind_groups.Given as goal

-- this number of ticks is counted
abbrev pub invariant-loop-group : goal.invariant-loop-group
invariant-loop-group l = IsCounted l.format l.most l.bytes l.ticks l.rest

abbrev pub decreases-loop-group : goal.decreases-loop-group
decreases-loop-group l = length l.rest
