use Rattle.std.proofs.Common.{sym, ◌∙◌}
use Rattle.world_reports.proofs.LookLemmas.{alike}
use Rattle.world_reports.proofs.copy.attempt.are_alike.Goals as goal

pub returns-then-eq : goal.returns-then-eq
returns-then-eq c = λ yes. (
  alike c.args.before c.args.within (sym c.eq.ensures ∙ c.if-eq.true),
  alike c.args.after c.args.within (sym c.eq-then-eq.ensures ∙ yes),
)
