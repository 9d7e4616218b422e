use Rattle.action_log.specs.LogState.{listed}
use Rattle.action_log.proofs.GroupReadingLemmas.{IsGroupListed}
use Rattle.action_log.proofs.reader.ticks.read_group.Given as goal

-- this number of ticks is read
abbrev pub invariant-loop : goal.invariant-loop
invariant-loop l = IsGroupListed l.format l.count l.counter l.initial.rest l.rest (listed l.fn.ticks.items) (listed l.ticks.items)
