use Rattle.action_log.proofs.GroupReadingLemmas.{IsGroupCounted}
use Rattle.action_log.proofs.reader.ticks.count_group.Given as goal

-- this number of ticks is read, with this number of actions
abbrev pub invariant-loop : goal.invariant-loop
invariant-loop l = IsGroupCounted l.format l.count l.counter l.actions l.initial.rest l.rest
