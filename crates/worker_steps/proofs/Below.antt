-- The laws of the crates below on which the law of the ends rests.
use Rattle.std.specs.Prelude.{◌≡◌, ℕ, List, ◌++◌, length, Ok}
use Rattle.world_actions.specs.declared.action.Action.{Action}
use Rattle.world_ticks.specs.After.{and_then, after_actions, after_ticks}
use Rattle.batches.specs.declared.batch.Request.{Request}
use Rattle.batches.specs.Answer.{accepted_of, words_after}
use Rattle.capture_core.specs.Content.{Takes}
use Rattle.recovery.specs.Events.{EventsKeep, WholeEventsKeep}

-- the facts that each event keeps, and the world after the tick of a batch
pub record Laws : Type 0 where
  pub events : EventsKeep Takes
  pub whole : WholeEventsKeep
  pub accepted : (requests : List Request) (words : List ℕ) → after_actions words (accepted_of requests words) ≡ Ok (words_after requests words)
  pub append : (world : List ℕ) (before after : List Action) → after_actions world (before ++ after) ≡ and_then (after_actions world before) (λ next. after_actions next after)
  pub cells : (first after : List ℕ) (ticks : List (List Action)) → after_ticks first ticks ≡ Ok after → length after ≡ length first
