-- A tick as contracts see it, and the decision on its next action.
use Rattle.std.specs.Prelude.{ℕ, List, length, nat_le, Result, Err, if◌then◌else◌}
use Rattle.world_actions.specs.declared.action.Action.{Action}
use Rattle.world_actions.specs.declared.refusal.Refusal.{Refusal}
use Rattle.world_actions.specs.declared.refusal.Refusal.TheVariants.{TickFull}
use Rattle.world_actions.specs.Effect.{effect}
use Rattle.world_ticks.specs.declared.tick.TheConstants.{TICK_ACTIONS}

-- the actions of a tick in order, and the number of further ones for which it has memory
pub record Actions : Type 0 where
  pub list : List Action
  pub room : ℕ

-- the world after one more action of a running tick, or the reason why it is refused; a full tick
-- is the first reason
abbrev pub decision : List ℕ → List Action → Action → Result (List ℕ) Refusal
decision world running action =
    if nat_le TICK_ACTIONS (length running) then Err TickFull else effect world action
