use Rattle.std.proofs.Common.{List}
use Rattle.world_actions.specs.declared.action.Action.{Action}
use Rattle.action_log.specs.Reading.{HasWidth, action_at, fields_at}
use Rattle.action_log.proofs.ValueReadingLemmas.{AreRead}
use Rattle.action_log.proofs.reader.ticks.count_tick.Given as goal

-- this number of actions is read, and the fields of the last kind have this width
abbrev pub invariant-loop : goal.invariant-loop
invariant-loop l = record {
  read : (tick : List Action) × AreRead (action_at l.format) l.count l.counter tick l.initial.rest l.rest;
  known : HasWidth (fields_at l.last) l.width;
}
