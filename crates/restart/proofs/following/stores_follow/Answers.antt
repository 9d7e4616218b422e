use Rattle.restart.proofs.Marked.{mark_follows, writes_follow, ticks_follow}
use Rattle.restart.proofs.Stepped.{step_follows, round_follows, first_round_follows, all_are_taken}
use Rattle.restart.proofs.Begun.{built_follows}
use Rattle.restart.proofs.following.stores_follow.Goals as goal

pub returns : goal.returns
returns c = record {
  mark = mark_follows;
  built = built_follows;
  writes = writes_follow;
  ticks = ticks_follow;
  step = step_follows;
  round = round_follows;
  first_round = first_round_follows;
  all_taken = all_are_taken;
}
