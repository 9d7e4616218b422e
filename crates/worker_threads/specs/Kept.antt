-- The conditions for a worker's start, and the facts at its end.
use Rattle.std.specs.Prelude.{◌≡◌, ◌⊎◌, true, false, [], ◌∷◌, ◌++◌, List}
use Rattle.workers.specs.declared.item.Item.{Item}
use Rattle.workers.specs.declared.item.Item.TheVariants.{Stop}
use Rattle.workers.specs.Mutating.{Playing}
use Rattle.workers.specs.Imaging as images
use Rattle.workers.specs.Imaging.{Imaging, KeepsBack}
use Rattle.workers.specs.Logging.{Logging, IsAtRest, IsPosted}
use Rattle.worker_steps.specs.Kept.{KeepsFront, KeepsLog}

-- no round is in work
abbrev pub MayTake : {D : Type 0} → Imaging D → Type 0
MayTake c = images.IsAtRest c.images.keeper c.back

-- no answer waits, and the last item wasn't popped
abbrev pub MayWrite : {D : Type 0} → Logging D → Type 0
MayWrite w = IsAtRest w × (w.over ≡ false)

-- ---- at the end

-- the last item that the mutator pushed is the end, unless a push was refused
pub record StopsFront (old new : Playing) : Type 0 where
  pub keeps : KeepsFront old new
  pub stops : (new.to.refused ≡ true)
      ⊎ ((before : List Item) × (new.to.items ≡ before ++ Stop ∷ []))

-- no round comes any more, or the checkpointer is down
pub record StopsBack {D : Type 0} (old new : Imaging D) : Type 0 where
  pub keeps : KeepsBack old new
  pub over : new.over ≡ true

-- nothing is left to write or to answer; if the log is up, all popped ticks are posted
pub record StopsLog {D : Type 0} (old new : Logging D) : Type 0 where
  pub keeps : KeepsLog old new
  pub over : new.over ≡ true
  pub rest : IsAtRest new
  pub posted : new.down ≡ false → IsPosted new
