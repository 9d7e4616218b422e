-- Inside: for the proofs of this crate's private functions.
-- The promises of a function that makes a move.
use Rattle.std.specs.Prelude.{◌≡◌}
use Rattle.world_actions.specs.declared.refusal.Refusal.{Refusal}
use Rattle.world_core.specs.declared.moves.Move.{Move}
use Rattle.world_core.specs.declared.moves.Answer.{Answer}
use Rattle.world_core.specs.declared.moves.Answer.TheVariants as answer
use Rattle.world_core.specs.Past.{Past, past_after}
use Rattle.world_core.specs.State.{State}
use Rattle.world_core.specs.Facts.{IsCoreAt}
use Rattle.world_core.specs.Moving.{Does}
use Rattle.world_core.specs.Exact.{IsExact, Progresses}

pub record Stepped (asked : Move) (old : State) (given : Answer) (new : State) : Type 0 where
  pub keeps : (past : Past) → IsCoreAt past old → IsCoreAt (past_after past asked given) new
  pub exact : (past : Past) → IsCoreAt past old → IsExact past old asked given
  pub does : Does asked old given new
  pub progress : Progresses asked given old new
  pub cells : new.images.cells ≡ old.images.cells
  pub refused : (refusal : Refusal) → given ≡ answer.Refused refusal → new ≡ old
