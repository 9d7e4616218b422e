-- The asks of a session, and what comes of them.
use Rattle.std.specs.Prelude.{◌≡◌, ◌⊎◌, ℕ, ◌+◌, ◌<◌, ◌^◌, List}
use Rattle.world_actions.specs.declared.refusal.Refusal.{Refusal}
use Rattle.world_actions.specs.declared.refusal.Refusal.TheVariants.{LogDown, TicksEnded}
use Rattle.batches.specs.declared.batch.Request.{Request}
use Rattle.workers.specs.declared.post.Fault.{Fault}
use Rattle.workers.specs.Posts.{Posted, IsFaultOfAsk}

-- the session's number, how many asks it sent, the requests of the last one, and the tick of its
-- last post, or 0
pub record AskerState : Type 0 where
  pub session : ℕ
  pub asked : ℕ
  pub requests : List Request
  pub posted : ℕ

-- the session asked once more, for these requests
abbrev pub IsAsked : (old : AskerState) → List Request → (new : AskerState) → Type 0
IsAsked old requests new = new ≡ record old { asked = old.asked + 1; requests = requests }

-- a post of the session's last ask, which was for these requests, at a later tick
-- than its last post
abbrev pub IsNewPost : AskerState → List Request → Posted → Type 0
IsNewPost asker requests post =
    (post.asked ≡ record { session = asker.session; ask = asker.asked; requests = requests })
    × (asker.posted < post.tick)

-- a fault of the session's last ask
abbrev pub IsFaultOf : AskerState → Fault → Type 0
IsFaultOf asker fault = IsFaultOfAsk asker.session asker.asked fault

-- the session's next ask was not sent: the mutator is gone, or no number of 64 bits is left for it
abbrev pub IsUnsent : AskerState → Refusal → Type 0
IsUnsent asker refusal =
    (refusal ≡ LogDown) ⊎ ((asker.asked + 1 ≡ 2 ^ 64) × (refusal ≡ TicksEnded))
