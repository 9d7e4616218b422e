use Rattle.action_log.specs.Progress.{work_of}
use Rattle.action_log.specs.declared.answer.LogAnswer.TheVariants as log_answer
use Rattle.world_core.specs.declared.moves.Move.TheVariants as move
use Rattle.world_core.specs.declared.moves.Answer.TheVariants as answer
use Rattle.world_core.specs.Past.{Past}
use Rattle.world_core.specs.Facts.{IsCoreAt}
use Rattle.world_core.proofs.Repeating.{SoFar}
use Rattle.world_core.proofs.world_core.Core.run_log.Given as goal

abbrev pub invariant-loop-reported : goal.invariant-loop-reported
invariant-loop-reported g l = (past : Past) → IsCoreAt past l.fn.self
    → SoFar (move.Log l.fate) (answer.Log log_answer.Idle) (work_of l.fn.self.log l.fn.self.queue) (work_of l.self.log l.self.queue) past l.fn.self (answer.Log l.reported) l.self

abbrev pub decreases-loop-reported : goal.decreases-loop-reported
decreases-loop-reported g l = work_of l.self.log l.self.queue
