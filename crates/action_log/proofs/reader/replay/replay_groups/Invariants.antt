use Rattle.std.proofs.Common.{length}
use Rattle.action_log.proofs.ReplayLemmas.{AreGroupsReplayed}
use Rattle.action_log.proofs.reader.replay.replay_groups.Given as goal

-- this number of groups is replayed
abbrev pub invariant-loop-group : goal.invariant-loop-group
invariant-loop-group g l = AreGroupsReplayed l.format l.most l.bytes l.rest l.ticks (g.C.Cells.words l.fn.c) (g.C.Cells.words l.c)

abbrev pub decreases-loop-group : goal.decreases-loop-group
decreases-loop-group g l = length l.rest
