-- The parts that a worker keeps over its steps. (The checkpointer's are in `KeepsBack` of workers.)
use Rattle.std.specs.Prelude.{◌≡◌, ◌≤◌, ◌++◌, List}
use Rattle.workers.specs.declared.item.Item.{Item}
use Rattle.workers.specs.Mutating.{Playing}
use Rattle.workers.specs.Logging.{Logging}

-- The mutator stays at its front, its ends of both channels and its word. It keeps the items that
-- it pushed, and pushes after them. It keeps the words that it began with, and the number of ticks
-- after which a round is due.
pub record KeepsFront (old new : Playing) : Type 0 where
  pub pair : new.front.pair ≡ old.front.pair
  pub end : new.to.end ≡ old.to.end
  pub asks : new.asks.end ≡ old.asks.end
  pub flag : new.heard.pair ≡ old.heard.pair
  pub items : (more : List Item) × (new.to.items ≡ old.to.items ++ more)
  pub opening : new.opening ≡ old.opening
  pub every : new.every ≡ old.every

-- The log writer stays at its end of the channel and at its two words. It still knows the keeper
-- and the files that it began with. No tick stops being acknowledged.
pub record KeepsLog {D : Type 0} (old new : Logging D) : Type 0 where
  pub end : new.from.end ≡ old.from.end
  pub word : new.covers.pair ≡ old.covers.pair
  pub flag : new.reported_down.pair ≡ old.reported_down.pair
  pub opening : new.opening ≡ old.opening
  pub acked : old.acked ≤ new.acked
