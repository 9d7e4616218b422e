-- An action that is refused leaves a world as it was.
use Rattle.std.proofs.Common.{rules}
use Rattle.std.proofs.Common.{◌≡◌, List, length, Result, ◌∙◌}
use Rattle.std.specs.Prelude.{OnOk, OnErr}
use Rattle.world_actions.specs.declared.action.Action.{Action}
use Rattle.world_actions.specs.declared.refusal.Refusal.{Refusal}
use Rattle.capture_core.specs.Content.{Content}
use Rattle.engine.specs.World.{World}

-- a store that was only read, with the same running tick, leaves the world as it was
pub only_read : {D : Type 0} (was now : World D) (content : Content) (running : List Action) → content ≡ was.content → running ≡ was.running → was ≡ now
    → record was { content = content; running = running } ≡ now
only_read was now content running c r e = (λ i. record was { content = c i; running = r i }) ∙ e

-- the number of words, and the cells that are left of a round
pub record IsSameSize (old new : Content) : Type 0 where
  pub cells : length new.live ≡ length old.live
  pub left : new.left ≡ old.left

pub same_size : {T P Q : Type 0} (r : Result T Refusal) (old new : Content) → (P → IsSameSize old new) → (Q → new ≡ old) → OnOk r P → OnErr r Q → IsSameSize old new
same_size b old new done unchanged p q = search rules
