use Rattle.std.proofs.Common.{drop}
use Rattle.capture_core.proofs.ContentLemmas.{all_touched-set}
use Rattle.capture_core.proofs.plain_copy.PlainCopyCells.write.Goals as goal

pub returns-clause-access : goal.returns-clause-access
returns-clause-access c =
    rw (← c.self.view_is) (all_touched-set c.self.inside.live.items (drop c.self.inside.taken c.self.inside.copy.items) c.args.i c.args.v)
