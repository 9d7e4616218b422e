use Rattle.std.proofs.Common.{rules}
use Rattle.action_log.proofs.CoverLemmas.{before_switch_most}
use Rattle.action_log.proofs.cover.take_covered.Goals as goal

pub overflow_sub-len : goal.overflow_sub-len
overflow_sub-len c = let most = before_switch_most c.args.tick c.args.queue.now.items in (search rules)
