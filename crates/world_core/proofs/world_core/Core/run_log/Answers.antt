use Rattle.std.proofs.Common.{refl, sym, ap, subst}
use Rattle.action_log.specs.declared.answer.LogAnswer.TheVariants as log_answer
use Rattle.action_log.specs.Progress.{work_of}
use Rattle.world_core.specs.declared.moves.Move.TheVariants as move
use Rattle.world_core.specs.declared.moves.Answer.TheVariants as answer
use Rattle.world_core.proofs.Repeating.{SoFar, as_log, step_goes_on}
use Rattle.world_core.proofs.Settling.{log_ended}
use Rattle.world_core.proofs.world_core.Core.run_log.Goals as goal

pub returns-in-Idle : goal.returns-in-Idle
returns-in-Idle g c = record { repeats = λ past h. log_ended _ _ _ _ _ _ _ _ (c.loop-reported.invariant past h) (as_log _ _ _ _ _ c.log-given.ensures c.in-Idle.is) refl }

pub returns-in-Down : goal.returns-in-Down
returns-in-Down g c = record {
  repeats = λ past h. log_ended _ _ _ _ _ _ _ _ (c.loop-reported.invariant past h) (as_log _ _ _ _ _ c.log-given.ensures c.in-Down.is) (ap (λ r. answer.Log r) c.in-Down.is);
}

pub loop-reported-preserved-in-Working : goal.loop-reported-preserved-in-Working
loop-reported-preserved-in-Working g c =
    let step = as_log _ _ _ _ _ c.log-given.ensures c.in-Working.is in
    λ past h. step_goes_on _ _ _ _ _ _ _ _ (c.loop-reported.invariant past h) _ _ step _ tt step.progress

pub loop-reported-preserved : goal.loop-reported-preserved
loop-reported-preserved g c =
    let step = as_log _ _ _ _ _ c.log-given.ensures c.in-Acked.is in
    λ past h.
    subst (λ r. SoFar (move.Log c.args.fate) (answer.Log log_answer.Idle) (work_of c.args.self.now.log c.args.self.now.queue)
    (work_of c.log-given.new.self.log c.log-given.new.self.queue) past c.args.self.now (answer.Log r) c.log-given.new.self) (sym c.in-Acked.is)
    (step_goes_on _ _ _ _ _ _ _ _ (c.loop-reported.invariant past h) _ _ step _ tt step.progress)
