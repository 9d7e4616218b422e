use Rattle.image_files.specs.Progress.{left_of}
use Rattle.image_files.specs.declared.answer.ImageAnswer.TheVariants as image_answer
use Rattle.world_core.specs.declared.moves.Move.TheVariants as move
use Rattle.world_core.specs.declared.moves.Answer.TheVariants as answer
use Rattle.world_core.specs.Past.{Past}
use Rattle.world_core.specs.Facts.{IsCoreAt}
use Rattle.world_core.proofs.Repeating.{SoFar}
use Rattle.world_core.proofs.world_core.Core.run_images.Given as goal

abbrev pub invariant-loop-reported : goal.invariant-loop-reported
invariant-loop-reported g l = (past : Past) → IsCoreAt past l.fn.self
    → SoFar (move.Image l.fate) (answer.Image image_answer.Idle) (left_of l.fn.self.images) (left_of l.self.images) past l.fn.self (answer.Image l.reported) l.self

abbrev pub decreases-loop-reported : goal.decreases-loop-reported
decreases-loop-reported g l = left_of l.self.images
