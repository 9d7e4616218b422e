use Rattle.action_log.proofs.ReplayLemmas.{IsGroupReplayed}
use Rattle.action_log.proofs.reader.replay.replay_group.Given as goal

-- this number of ticks is replayed
abbrev pub invariant-loop : goal.invariant-loop
invariant-loop g l = IsGroupReplayed l.format l.count l.counter l.initial.rest l.rest (g.C.Cells.words l.fn.c) (g.C.Cells.words l.c)
