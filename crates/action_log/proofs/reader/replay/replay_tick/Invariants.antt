use Rattle.action_log.proofs.ReplayLemmas.{IsTickReplayed}
use Rattle.action_log.proofs.reader.replay.replay_tick.Given as goal

-- this number of actions is replayed
abbrev pub invariant-loop : goal.invariant-loop
invariant-loop g l = IsTickReplayed l.format l.count l.counter l.initial.rest l.rest (g.C.Cells.words l.fn.c) (g.C.Cells.words l.c)
