use Rattle.std.proofs.Common.{◌+◌, ◌-◌, ◌≤◌, length, vec_capacity}
use Rattle.action_log.specs.Reading.{action_at}
use Rattle.action_log.proofs.ValueReadingLemmas.{AreRead}
use Rattle.action_log.proofs.reader.ticks.read_tick.Given as goal

-- this number of actions is read, and there is room for those that are left
abbrev pub invariant-loop : goal.invariant-loop
invariant-loop l = record {
  room : length l.tick.items + (l.count - l.counter) ≤ vec_capacity l.tick;
  read : AreRead (action_at l.format) l.count l.counter l.tick.items l.initial.rest l.rest;
}
