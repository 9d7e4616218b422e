use Rattle.std.proofs.Common.{◌+◌, ◌*◌, ◌≤◌, length}
use Rattle.world_ticks.specs.declared.tick.TheConstants.{TICK_ACTIONS}
use Rattle.action_log.proofs.GroupReadingLemmas.{IsReadOver}
use Rattle.action_log.proofs.reader.ticks.count_all.Given as goal

-- these numbers of groups, ticks and actions are read: no more groups than bytes, and not too many ticks
abbrev pub invariant-loop-group : goal.invariant-loop-group
invariant-loop-group l = record {
  short : l.counts.groups + length l.rest ≤ length l.bytes;
  few : l.counts.ticks ≤ l.most;
  bounded : l.counts.actions ≤ TICK_ACTIONS * l.counts.ticks;
  so_far : IsReadOver l.format l.bytes l.counts.groups l.counts.ticks l.counts.actions l.rest;
}

abbrev pub decreases-loop-group : goal.decreases-loop-group
decreases-loop-group l = length l.rest
