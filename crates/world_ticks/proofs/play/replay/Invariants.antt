use Rattle.std.proofs.Common.{◌≡◌, Ok, take, drop}
use Rattle.world_ticks.specs.Cells.{Performs}
use Rattle.world_ticks.specs.After.{after_actions, accepted_writes}
use Rattle.world_ticks.proofs.play.replay.Given as goal

-- the actions so far are done and have written their words, and the rest leads to the same world as all actions
abbrev pub invariant-loop-a : goal.invariant-loop-a
invariant-loop-a g l = record {
  done : after_actions (g.C.Cells.words l.fn.c) (take l.a-index l.actions) ≡ Ok (g.C.Cells.words l.c);
  rest : after_actions (g.C.Cells.words l.fn.c) l.actions ≡ after_actions (g.C.Cells.words l.c) (drop l.a-index l.actions);
  writes : Performs g.C.Cells.accessed l.fn.c (accepted_writes (g.C.Cells.words l.fn.c) (take l.a-index l.actions)) l.c;
}
