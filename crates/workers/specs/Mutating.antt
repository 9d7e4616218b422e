-- The mutator as contracts see it, and the effect of its turn.
use Rattle.std.specs.Prelude.{◌≡◌, ◌⊎◌, ℕ, ◌+◌, ◌<◌, ◌≤◌, Bool, true, false, List, [], ◌∷◌, ◌++◌}
use Rattle.std.specs.Prelude.{All, Contains, Option, Some, None, IfSome, MatchOption, Result}
use Rattle.std.specs.Prelude.{MatchResult}
use Rattle.world_actions.specs.declared.refusal.Refusal.{Refusal}
use Rattle.world_actions.specs.declared.refusal.Refusal.TheVariants.{LogDown, Busy}
use Rattle.world_ticks.specs.declared.tick.TheConstants.{TICK_MAX}
use Rattle.shared_capture.specs.declared.view.Round.{Round}
use Rattle.shared_capture.specs.SignalWord.{SignalState, with_number}
use Rattle.shared_capture.specs.States.{FrontState, HasFlags, KeepsUntouched, SameWords}
use Rattle.shared_capture.specs.States.{marked_rounds, IsRefused}
use Rattle.workers.specs.declared.item.Ended.{Ended}
use Rattle.workers.specs.declared.item.Item.{Item}
use Rattle.workers.specs.declared.item.Item.TheVariants as items
use Rattle.workers.specs.declared.item.Owed.{Owed}
use Rattle.workers.specs.declared.item.Owed.TheVariants.{Tick, Switch}
use Rattle.workers.specs.Items.{Goes, end_after, items_end}
use Rattle.workers.specs.declared.post.Unplayed.{Unplayed}
use Rattle.workers.specs.Posts.{AskedBatch}
use Rattle.workers.specs.AskOrder.{asks_of, IsBefore, PlaysInTurn}
use Rattle.workers.specs.AskChannel.{Taking, with_ask}
use Rattle.workers.specs.Channel.{Pushing, with_item, with_refusal}
use Rattle.workers.specs.Worlds.{Leads, begun, AreUnchanged, History, Counts, RanBatch}
use Rattle.workers.specs.Worlds.{IsRefusedTick, world_of}

-- Its ends of the channels of asks and of items, its front, and the word by which it hears that the
-- log is down. The words that it began with. How many ticks ended, how many of them since the last
-- switch or start, and after how many a round is due. Its flag that it has stopped, and the item
-- that it owes, if any.
pub record Playing : Type 0 where
  pub asks : Taking
  pub front : FrontState
  pub to : Pushing
  pub heard : SignalState
  pub opening : List ℕ
  pub ended : ℕ
  pub since : ℕ
  pub every : ℕ
  pub stopped : Bool
  pub owed : Option Owed

abbrev pub item_of : Owed → Item
item_of (Tick ended) = items.Tick ended
item_of (Switch number) = items.Switch number

-- It owes this item, which may be pushed next and states what the front did since the last push.
-- Until then it has stopped.
pub record Owes (m : Playing) (item : Item) : Type 0 where
  pub stopped : m.stopped ≡ true
  pub goes : Goes (items_end m.to.items) item
  pub leads : Leads (begun m.opening) (m.to.items ++ item ∷ []) (world_of m.front)
  pub in_turn : PlaysInTurn m.asks.taken (m.to.items ++ item ∷ [])
  pub rising : All (λ (r : Round). r.tick ≤ (end_after (items_end m.to.items) item).base)
      m.front.rounds

-- The pushed items state what its front did, and its counts are those of the pushed items. Each
-- session's batches were played once, in its order. Unless it has stopped, each round is of a tick
-- up to the last switch. In each round, and in one that is marked now, the untouched cells have the
-- words of the round before.
pub record IsMutator (m : Playing) : Type 0 where
  pub history : History m.opening m.to.items m.stopped m.front
  pub in_turn : PlaysInTurn m.asks.taken m.to.items
  pub counts : Counts (items_end m.to.items) m.ended m.since
  pub rising : m.stopped ≡ false
      → All (λ (r : Round). r.tick ≤ (items_end m.to.items).base) m.front.rounds
  pub most : m.ended ≤ TICK_MAX
  pub flags : HasFlags m.front
  pub unchanged : AreUnchanged m.opening (marked_rounds m.front 0)
  pub owes : IfSome m.owed (λ owed. Owes m (item_of owed))

-- ---- a round

-- no round is due
abbrev pub IsEarly : Playing → Type 0
IsEarly m = (m.since ≡ 0) ⊎ (m.since < m.every)

-- the round of the ended ticks was opened
abbrev pub OpensRound : Playing → FrontState → Type 0
OpensRound old front =
    SameWords old.front front × (front.rounds ≡ marked_rounds old.front old.ended) × HasFlags front

-- the last round is of this tick
abbrev pub IsLastRound : FrontState → ℕ → Type 0
IsLastRound front tick =
    (before : List Round) × (r : Round) × (front.rounds ≡ before ++ r ∷ []) × (r.tick ≡ tick)

-- a round was open
abbrev pub FindsRound : Playing → Playing → Type 0
FindsRound old new =
    (new ≡ record old { front = new.front }) × SameWords old.front new.front
    × IsRefused old.front Busy new.front

-- no round was due, or one was open
abbrev pub OpensNone : Playing → Playing → Type 0
OpensNone old new = ((new ≡ old) × ((old.stopped ≡ true) ⊎ IsEarly old)) ⊎ FindsRound old new

-- a round was opened, and its switch is owed
abbrev pub OwesSwitch : Playing → Playing → Type 0
OwesSwitch old new =
    (old.stopped ≡ false) × (old.owed ≡ None)
    × (new ≡ record old { front = new.front; stopped = true; owed = Some (Switch old.ended) })
    × OpensRound old new.front

-- ---- a batch

-- this batch was taken
abbrev pub TakesAsk : Playing → AskedBatch → Playing → Type 0
TakesAsk old asked new = new ≡ record old { asks = with_ask old.asks asked }

-- This batch was taken last, and no tick is of it, or of a later one of its session.
abbrev pub IsTaken : Playing → AskedBatch → Type 0
IsTaken m asked =
    Contains m.asks.taken asked
    × All (λ (earlier : AskedBatch). IsBefore earlier asked) (asks_of m.to.items)

-- this batch was run as the next tick, and the answer is for this very batch
pub record Runs (old : Playing) (asked : AskedBatch) (ended : Ended)
    (front : FrontState) : Type 0 where
  pub number : ended.answer.number ≡ old.ended + 1
  pub answers : ended.answer.asked ≡ asked
  pub pair : front.pair ≡ old.front.pair
  pub ran : RanBatch asked.requests (world_of old.front) ended (world_of front)
  pub untouched : KeepsUntouched old.front front

-- the log wasn't reported to be down, the batch was run, and its tick is owed
abbrev pub OwesTick : Playing → AskedBatch → Playing → Type 0
OwesTick old asked new = (old.owed ≡ None)
    × ((ended : Ended) × Runs old asked ended new.front
    × (new ≡ record old {
      front = new.front;
      heard = with_number old.heard 0;
      stopped = true;
      owed = Some (Tick ended);
    }))

-- the log was reported to be down
abbrev pub HearsDown : Playing → Refusal → Playing → Type 0
HearsDown old reason new =
    (flag : ℕ) × (1 ≤ flag)
    × (new ≡ record old { heard = with_number old.heard flag }) × (reason ≡ LogDown)

-- Nothing was run. Either no tick may end or memory was refused, or the log was reported to be
-- down. Or the mutator has stopped, or stops here because its gate never lets another batch run.
abbrev pub RefusesBatch : (stuck : Type 0) → Playing → Refusal → Playing → Type 0
RefusesBatch stuck old reason new =
    ((new ≡ record old { heard = with_number old.heard 0 })
    × IsRefusedTick false old.ended old.since reason)
    ⊎ (HearsDown old reason new
    ⊎ ((new ≡ record old { stopped = true }) × (reason ≡ LogDown) × ((old.stopped ≡ true) ⊎ stuck)))

-- it says of this very ask why it isn't run
abbrev pub IsUnplayed : AskedBatch → Unplayed → Type 0
IsUnplayed asked unplayed = (unplayed.session ≡ asked.session) × (unplayed.ask ≡ asked.ask)

-- a batch is run and its tick owed, if the mutator hasn't stopped and the gate lets it, or it is
-- refused, which its session is given the reason of
abbrev pub RunsBatch : (go stuck : Type 0) → Playing → AskedBatch
    → Result (Unit {0}) Unplayed → Playing → Type 0
RunsBatch go stuck old asked given new =
    MatchResult given (λ _. go × (old.stopped ≡ false) × OwesTick old asked new)
    (λ unplayed. IsUnplayed asked unplayed × RefusesBatch stuck old unplayed.reason new)

-- the next batch was taken, and run or refused
pub record Plays (go stuck : Type 0) (old : Playing) (asked : AskedBatch)
    (given : Result (Unit {0}) Unplayed) (new : Playing) : Type 0 where
  pub taken : Playing
  pub takes : TakesAsk old asked taken
  pub runs : RunsBatch go stuck taken asked given new

-- ---- the owed item

-- the owed item was pushed, and counts
abbrev pub paid : Playing → Owed → Playing
paid old (Tick ended) = record old {
  to = with_item old.to (items.Tick ended);
  ended = old.ended + 1;
  since = old.since + 1;
  stopped = false;
  owed = None;
}
paid old (Switch number) = record old {
  to = with_item old.to (items.Switch number);
  since = 0;
  stopped = false;
  owed = None;
}

-- the owed item is pushed, or its push is refused; it is owed no more
abbrev pub Pays : Playing → Playing → Type 0
Pays old new = MatchOption old.owed (new ≡ old)
    (λ owed. (new ≡ paid old owed) ⊎ (new ≡ record old { to = with_refusal old.to; owed = None }))

-- ---- a turn

-- a round was opened if one was due and none open, and its switch pushed directly after, or its
-- push was refused
abbrev pub MarksIfDue : Playing → Playing → Type 0
MarksIfDue old new =
    OpensNone old new ⊎ ((opened : Playing) × OwesSwitch old opened × Pays opened new)

-- The next batch was taken, with a mark before it and after it if one is due. It was run, and its
-- tick pushed, or its push was refused. Or the batch was refused.
pub record Turns (go stuck : Type 0) (old : Playing) (asked : AskedBatch)
    (given : Result (Unit {0}) Unplayed) (new : Playing) : Type 0 where
  pub taken : Playing
  pub before : Playing
  pub ran : Playing
  pub after : Playing
  pub takes : TakesAsk old asked taken
  pub marks_before : MarksIfDue taken before
  pub runs : RunsBatch go stuck before asked given ran
  pub pays : MatchResult given (λ _. Pays ran after) (λ _. after ≡ ran)
  pub marks_after : MarksIfDue after new

-- ---- the end

-- the last item was pushed, or its push was refused
abbrev pub StopsPlay : Playing → Playing → Type 0
StopsPlay old new =
    (new ≡ record old { to = with_item old.to items.Stop })
    ⊎ (new ≡ record old { to = with_refusal old.to; stopped = true })
