-- The ends of the channel of asks as contracts see them.
use Rattle.std.specs.Prelude.{◌≡◌, ℕ, List, [], ◌∷◌, ◌++◌}
use Rattle.crossbeam_channel.specs.Claims.{Pass, view, IsSeatAt}
use Rattle.crossbeam_channel.specs.Ends.{sends_on, receives_on}
use Rattle.workers.specs.declared.ask_rule.AskView.{AskView}
use Rattle.workers.specs.declared.ask_rule.AskView.TheVariants.{Numbers, Sends, Takes}
use Rattle.workers.specs.declared.ask_channel.AskSendEnd.{AskSendEnd}
use Rattle.workers.specs.declared.ask_channel.AskReceiveEnd.{AskReceiveEnd}
use Rattle.workers.specs.Posts.{AskedBatch}
use Rattle.workers.specs.AskOrder.{AreNumbered, last_requests, taken_of}

-- an end, and how many sessions it began
pub record Numbering : Type 0 where
  pub end : AskSendEnd
  pub next : ℕ

-- an end, and all asks that it took
pub record Taking : Type 0 where
  pub end : AskReceiveEnd
  pub taken : List AskedBatch

-- it took this ask
abbrev pub with_ask : Taking → AskedBatch → Taking
with_ask from asked = record from { taken = from.taken ++ asked ∷ [] }

abbrev pub AreOneAskChannel : AskReceiveEnd → AskSendEnd → Type 0
AreOneAskChannel from to = receives_on from.end ≡ sends_on to.end

pub record IsNumbering (end : AskSendEnd) (pass : Pass AskedBatch AskView) (next : ℕ) : Type 0 where
  pub at : IsSeatAt (sends_on end.end) pass
  pub numbers : view pass ≡ Numbers next

-- the session of this number sent this number of asks
pub record IsSession (end : AskSendEnd) (pass : Pass AskedBatch AskView)
    (session asked : ℕ) : Type 0 where
  pub at : IsSeatAt (sends_on end.end) pass
  pub sends : view pass ≡ Sends session asked (last_requests (view pass))

pub record IsTaking (end : AskReceiveEnd) (pass : Pass AskedBatch AskView) : Type 0 where
  pub at : IsSeatAt (receives_on end.end) pass
  pub takes : view pass ≡ Takes (taken_of (view pass))
  pub numbered : AreNumbered (taken_of (view pass))
