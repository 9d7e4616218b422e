-- The answers to the batches of a session.
use Rattle.std.specs.Prelude.{◌≡◌, ◌⊎◌, ℕ, List, Option, Some, Result, Ok, Err}
use Rattle.world_actions.specs.declared.refusal.Refusal.{Refusal}
use Rattle.world_actions.specs.declared.refusal.Refusal.TheVariants.{NoMemory}
use Rattle.batches.specs.declared.batch.Request.{Request}
use Rattle.workers.specs.declared.post.Fault.{Fault}
use Rattle.workers.specs.Posts.{Posted, IsPost, reason_of}
use Rattle.workers.specs.Asking.{AskerState, IsAsked, IsUnsent, IsNewPost, IsFaultOf}

-- a session: its asker, the post that answered it last, and its last fault
pub record Asking : Type 0 where
  pub asker : AskerState
  pub last : Option Posted
  pub fault : Option Fault

-- the session asked once, for these requests
abbrev pub Asks : (old : Asking) → List Request → (new : Asking) → Type 0
Asks old requests new =
    IsAsked old.asker requests new.asker × (new ≡ record old { asker = new.asker })

-- it heard this post, a new one of its last ask, which was for these requests
abbrev pub HearsPost : (old : Asking) → List Request → (new : Asking) → Posted → Type 0
HearsPost old requests new post =
    IsNewPost old.asker requests post
    × (new ≡ record old { asker = record old.asker { posted = post.tick }; last = Some post })

-- it heard a fault of its last ask, for this reason
abbrev pub HearsFault : (old new : Asking) → Refusal → Type 0
HearsFault old new refusal =
    (fault : Fault) × IsFaultOf old.asker fault × (refusal ≡ reason_of fault)
    × (new ≡ record old { fault = Some fault })

-- it sent no ask: it had no memory, the mutator is gone, or no number of 64 bits is left
abbrev pub AsksNothing : (old new : Asking) → Refusal → Type 0
AsksNothing old new refusal =
    (new ≡ old) × ((refusal ≡ NoMemory) ⊎ IsUnsent old.asker refusal)

-- it asked once, for these requests, and heard this post
abbrev pub IsAnsweredBy : (old : Asking) → List Request → (new : Asking) → Posted → Type 0
IsAnsweredBy old requests new post =
    (asked : Asking) × Asks old requests asked × HearsPost asked requests new post

-- it asked nothing, or asked once, for these requests, and heard a fault for this reason
abbrev pub IsRefusedFor : (old : Asking) → List Request → (new : Asking) → Refusal → Type 0
IsRefusedFor old requests new refusal = AsksNothing old new refusal
    ⊎ ((asked : Asking) × Asks old requests asked × HearsFault asked new refusal)

-- A batch is asked for once. Its answer is the text of a new post, which is of this very ask, at a
-- later tick than the one before, and durable. A fault is the one that was heard of this ask, and
-- comes of no post.
abbrev pub IsPosted : (old : Asking) → List Request → Result (List ℕ) Refusal
    → (new : Asking) → Type 0
IsPosted old requests (Ok text) new =
    (post : Posted) × IsAnsweredBy old requests new post × (text ≡ post.text) × IsPost post
IsPosted old requests (Err refusal) new = IsRefusedFor old requests new refusal
