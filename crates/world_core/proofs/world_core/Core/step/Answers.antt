use Rattle.std.proofs.Common.{sym, subst}
use Rattle.world_core.specs.declared.moves.Answer.TheVariants as answer
use Rattle.world_core.specs.Past.{past_after}
use Rattle.world_core.specs.Exact.{IsExact}
use Rattle.world_core.specs.Facts.{IsCoreAt}
use Rattle.world_core.proofs.world_core.Core.step.Goals as goal

pub returns-in-Image-clause-exact : goal.returns-in-Image-clause-exact
returns-in-Image-clause-exact g c = λ past h. subst (λ m. IsExact past c.args.self.now m (answer.Image c.image.result)) (sym c.in-Image.is) (c.image.ensures.exact past h)

pub returns-in-Log-clause-exact : goal.returns-in-Log-clause-exact
returns-in-Log-clause-exact g c = λ past h. subst (λ m. IsExact past c.args.self.now m (answer.Log c.log.result)) (sym c.in-Log.is) (c.log.ensures.exact past h)

pub returns-in-Image-clause-keeps : goal.returns-in-Image-clause-keeps
returns-in-Image-clause-keeps g c = λ past h. subst (λ m. IsCoreAt (past_after past m (answer.Image c.image.result)) c.image.new.self) (sym c.in-Image.is) (c.image.ensures.keeps past h)

pub returns-in-Crash-clause-exact : goal.returns-in-Crash-clause-exact
returns-in-Crash-clause-exact g c = λ past h. subst (λ m. IsExact past c.args.self.now m c.crash.result) (sym c.in-Crash.is) (c.crash.ensures.exact past h)
