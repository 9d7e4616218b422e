-- The workers of a world once their ends have met.
use Rattle.std.specs.Prelude.{◌≡◌, ◌≤◌, ℕ, Bool, true, List, ◌++◌, Some, slice_get}
use Rattle.shared_capture.specs.SignalWord.{AreStored}
use Rattle.shared_capture.specs.Rounds.{Agree}
use Rattle.shared_capture.specs.States.{snapshots, KnowsOpen}
use Rattle.workers.specs.declared.item.Item.{Item}
use Rattle.workers.specs.Items.{AreNumbered}
use Rattle.workers.specs.Mutating.{Playing}
use Rattle.workers.specs.Imaging.{Imaging}
use Rattle.workers.specs.Logging.{Logging}

-- the mutator heard that the log is down only if it is
abbrev pub HeardOnlyOfDown : (heard : List ℕ) → (down : Bool) → Type 0
HeardOnlyOfDown heard down = (i flag : ℕ) → slice_get heard i ≡ Some flag → 1 ≤ flag → down ≡ true

-- The rounds that were taken are those that were marked, with the round in work. The popped items
-- are a beginning of the pushed ones, each where it may be. Each loaded value except 0 was stored:
-- the ticks of images, and the report that the log is down.
pub record HaveMet {D : Type 0} (m : Playing) (c : Imaging D) (w : Logging D) : Type 0 where
  pub agree : Agree m.front.rounds (snapshots c.back)
  pub level : KnowsOpen m.front.closed m.front c.back
  pub waiting : List Item
  pub order : w.from.items ++ waiting ≡ m.to.items
  pub numbered : AreNumbered m.to.items
  pub reported : AreStored c.covers.numbers w.covers.numbers
  pub heard : AreStored w.reported_down.numbers m.heard.numbers
