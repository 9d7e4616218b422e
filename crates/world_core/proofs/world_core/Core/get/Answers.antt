use Rattle.std.proofs.Common.{sym, subst, ◌∙◌}
use Rattle.world_core.specs.declared.moves.Move.TheVariants as move
use Rattle.world_core.specs.Past.{past_after}
use Rattle.world_core.specs.Facts.{IsCoreAt}
use Rattle.world_core.proofs.Playing.{read_keeps}
use Rattle.world_core.proofs.world_core.Core.get.Goals as goal
use Rattle.world_core.proofs.world_core.Core.get.Goals.{in-Ok, in-Err}

pub returns-clause-keeps : goal.returns-clause-keeps
returns-clause-keeps g c = λ past h.
    let at = subst (IsCoreAt past) (sym (c.read.ensures.same ∙ c.self.view_is)) h in
    elim c.match-read.branch as (λ b. IsCoreAt (past_after past (move.Get c.args.cell) c.match-read.result) c.read.new.self) [
      | in-Ok w ↦ subst (λ r. IsCoreAt (past_after past (move.Get c.args.cell) r) c.read.new.self) (sym w.result-is) (read_keeps past c.read.new.self c.args.cell w.in-Ok.word at)
      | in-Err w ↦ subst (λ r. IsCoreAt (past_after past (move.Get c.args.cell) r) c.read.new.self) (sym w.result-is) at
    ]
