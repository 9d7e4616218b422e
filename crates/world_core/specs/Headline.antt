-- The promises of a run of moves. docs/HEADLINE.md explains them.
use Rattle.std.specs.Prelude.{◌≡◌, ◌⊎◌, ℕ, List, [], ◌∷◌, length, Bool, true, false, Ok, Err}
use Rattle.std.specs.Prelude.{replicate}
use Rattle.world_actions.specs.declared.action.Action.{Action}
use Rattle.world_actions.specs.declared.refusal.Refusal.TheVariants.{NoImage}
use Rattle.disk_model.specs.FileState.{FileState}
use Rattle.disk_model.specs.CrashOutcome.{IsCrashOutcome}
use Rattle.disk_model.specs.declared.four_files.FourFiles.{FourFiles}
use Rattle.recovery.specs.Recovery.{Recovery, Recovers}
use Rattle.recovery.specs.Sound.{IsSound, IsFresh}
use Rattle.world_core.specs.declared.moves.Move.{Move}
use Rattle.world_core.specs.declared.moves.Answer.{Answer}
use Rattle.world_core.specs.History.{ended, acked, has_opened}
use Rattle.world_core.specs.Past.{Past, past_after}
use Rattle.world_core.specs.State.{State, files_in}
use Rattle.world_core.specs.Moving.{Does}
use Rattle.world_core.specs.Exact.{MayLeave, IsExact, Progresses}
use Rattle.world_core.specs.Facts.{IsCoreAt}

-- Whatever a crash leaves of four files, recovery gives the world after the first n of these
-- ticks, for some n not below the acknowledged count. Each open image is the world after its
-- tick. Before the first image no tick has ended, and recovery gives the first words at tick 0
-- or finds no image.
abbrev pub AreSafe : (has_image : Bool) → FourFiles FileState → (first : List ℕ)
    → List (List Action) → (acknowledged : ℕ) → Type 0
AreSafe true files first ticks acknowledged =
    IsSound (IsCrashOutcome files.image_a) (IsCrashOutcome files.image_b)
    (IsCrashOutcome files.log_a) (IsCrashOutcome files.log_b) first ticks acknowledged
AreSafe false files first ticks acknowledged =
    IsFresh (IsCrashOutcome files.image_a) (IsCrashOutcome files.image_b)
    (IsCrashOutcome files.log_a) (IsCrashOutcome files.log_b) first
    × (ticks ≡ []) × (acknowledged ≡ 0)

-- one answer for each move, and the files are safe for the ticks that ended and the acknowledged
-- count, from zeros
abbrev pub Headline : (cells : ℕ) → List Move → List Answer → FourFiles FileState → Type 0
Headline cells moves answers files =
    (length answers ≡ length moves)
    × AreSafe (has_opened answers) files (replicate cells 0) (ended moves answers) (acked answers)

-- the files of each core that agrees with its moves and answers are safe
abbrev pub CoresAreSafe : Type 0
CoresAreSafe =
    (past : Past) (state : State) → IsCoreAt past state
    → AreSafe past.has_image (files_in state) (replicate state.images.cells 0)
    past.history.ticks past.acknowledged

-- before the first image recovery finds no image, or gives the first words at tick 0
abbrev pub FreshAreRecovered : Type 0
FreshAreRecovered =
    (files : FourFiles FileState) (first : List ℕ) (ticks : List (List Action)) (acknowledged : ℕ)
    → AreSafe false files first ticks acknowledged
    → (image_a image_b log_a log_b : List ℕ) → MayLeave files image_a image_b log_a log_b
    → Recovers image_a image_b log_a log_b (Err NoImage)
    ⊎ ((r : Recovery) × Recovers image_a image_b log_a log_b (Ok r)
    × (r.tick ≡ 0) × (r.words ≡ first))

-- a move is answered exactly, and does what its answer says
pub record Answers (past : Past) (old : State) (asked : Move) (given : Answer)
    (new : State) : Type 0 where
  pub exact : IsExact past old asked given
  pub does : Does asked old given new
  pub progress : Progresses asked given old new

-- each move is answered exactly, one after another
abbrev pub Runs : Past → (old : State) → List Move → List Answer → (new : State) → Type 0
Runs past old [] [] new = new ≡ old
Runs past old [] (given ∷ answers) new = ⊥
Runs past old (asked ∷ moves) [] new = ⊥
Runs past old (asked ∷ moves) (given ∷ answers) new =
    (next : State) × Answers past old asked given next
    × Runs (past_after past asked given) next moves answers new
