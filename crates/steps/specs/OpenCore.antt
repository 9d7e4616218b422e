-- Inside: for the proofs of this crate's private functions.
-- An open core as proofs see it: its state, and the method that captures its words.
use Rattle.std.specs.Prelude.{ℕ, List}
use Rattle.world_core.specs.declared.moves.Move.{Move}
use Rattle.world_core.specs.declared.moves.Answer.{Answer}
use Rattle.world_core.specs.Past.{Past, past_after}
use Rattle.world_core.specs.State.{State}
use Rattle.world_core.specs.Facts.{IsCoreAt}
use Rattle.steps.specs.declared.line.Method.{Method}
use Rattle.steps.specs.declared.line.Method.TheVariants as method
use Rattle.steps.specs.declared.line.Line.{Line}
use Rattle.steps.specs.declared.line.Line.TheVariants as line
use Rattle.steps.specs.declared.open_core.OpenCore.{OpenCore}
use Rattle.steps.specs.declared.open_core.OpenCore.TheVariants.{Plain, Zigzag, PingPong}
use Rattle.steps.specs.declared.open_core.OpenCore.TheVariants.{ZigzagShared, PingPongShared}
use Rattle.steps.specs.Played.{Moves, Runs}

-- the state of the core, whatever its store is
abbrev pub state_of : OpenCore → State
state_of (Plain core) = core
state_of (Zigzag core) = core
state_of (PingPong core) = core
state_of (ZigzagShared core) = core
state_of (PingPongShared core) = core

-- the method that the core's store captures by
abbrev pub method_of : OpenCore → Method
method_of (Plain core) = method.Plain
method_of (Zigzag core) = method.Zigzag
method_of (PingPong core) = method.PingPong
method_of (ZigzagShared core) = method.ZigzagShared
method_of (PingPongShared core) = method.PingPongShared

-- the method and the state of an open core
pub record OpenState : Type 0 where
  pub method : Method
  pub state : State

abbrev pub open_state_of : OpenCore → OpenState
open_state_of core = record { method = method_of core; state = state_of core }

-- the line leads a core from the one state to the other and prints this, whatever its past is
pub record Leads (line : Line) (old : State) (said : List ℕ) (new : State) : Type 0 where
  pub on : (past : Past) → IsCoreAt past old
      → (next : Past) × IsCoreAt next new
      × Runs line (record { past = past; state = old }) said (record { past = next; state = new })

-- the move leads a core from the one state to the other with this answer, whatever its past is
pub record MovesOn (old : State) (asked : Move) (given : Answer) (new : State) : Type 0 where
  pub on : (past : Past) → IsCoreAt past old
      → Moves (record { past = past; state = old }) asked given
      (record { past = past_after past asked given; state = new })

-- the line opens no core
abbrev pub IsNoOpening : Line → Type 0
IsNoOpening (line.Open method cells) = ⊥
IsNoOpening line = Unit {0}

-- the line is answered by one answer: it opens no core, and isn't `world`
abbrev pub IsAnswered : Line → Type 0
IsAnswered (line.Open method cells) = ⊥
IsAnswered line.World = ⊥
IsAnswered line = Unit {0}
