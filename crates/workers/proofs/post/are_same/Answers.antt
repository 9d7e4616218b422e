use Rattle.std.proofs.Common.{sym, ◌∙◌}
use Rattle.workers.proofs.Same.{equal_requests, same_requests}
use Rattle.workers.proofs.post.are_same.Goals as goal

pub returns : goal.returns
returns c = (
  λ is. same_requests c.args.xs.now c.args.ys.now (sym c.eq.ensures ∙ is),
  λ are. c.eq.ensures ∙ equal_requests c.args.xs.now c.args.ys.now are,
)
