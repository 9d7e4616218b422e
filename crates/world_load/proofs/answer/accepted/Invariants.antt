use Rattle.std.proofs.Common.{◌≡◌, ◌-◌, ◌≤◌, ◌++◌}
use Rattle.world_load.specs.Answer.{pluses, all_accepted}
use Rattle.world_load.proofs.answer.accepted.Given as goal

-- so far, and what is left, is the whole
abbrev pub invariant-loop : goal.invariant-loop
invariant-loop l = record {
  whole : l.text.items ++ pluses (l.fn.lines - l.counter) ≡ all_accepted l.fn.lines;
  below : l.counter ≤ l.fn.lines;
}
