-- Each step of the mutator satisfies `KeepsFront`.
use Rattle.std.proofs.Common.{◌≡◌, ◌∙◌, sym, ap, ◌⊎◌, inl, inr, Ok, Err, Result, Bool, true, false, List, [], ◌∷◌, ◌++◌, append_assoc, Option, Some, None, MatchOption, refl, subst}
use Rattle.std.proofs.lemmas.List.{append-nil}
use Rattle.world_actions.specs.declared.refusal.Refusal.{Refusal}
use Rattle.workers.specs.declared.post.Unplayed.{Unplayed}
use Rattle.workers.specs.declared.item.Item.{Item}
use Rattle.workers.specs.declared.item.Item.TheVariants as items
use Rattle.workers.specs.declared.item.Owed.{Owed}
use Rattle.workers.specs.declared.item.Owed.TheVariants.{Tick, Switch}
use Rattle.workers.specs.Posts.{AskedBatch}
use Rattle.workers.specs.Channel.{with_refusal}
use Rattle.workers.specs.Mutating.{Playing, MarksIfDue, OpensNone, OwesSwitch, TakesAsk, RefusesBatch, RunsBatch, Plays, OwesTick, paid, Pays, StopsPlay}
use Rattle.worker_steps.specs.Kept.{KeepsFront}
use Rattle.worker_steps.specs.Running.{MayPlay, MayOpen}

-- the mutator became `mid`, whose front is of the same pair, and pushed these items
keeps_as : (old : Playing) {mid : Playing} (new : Playing) (more : List Item) → new ≡ mid → mid.front.pair ≡ old.front.pair
    → mid.heard.pair ≡ old.heard.pair → mid.opening ≡ old.opening → mid.every ≡ old.every → mid.to.end ≡ old.to.end
    → mid.asks.end ≡ old.asks.end → mid.to.items ≡ old.to.items ++ more → KeepsFront old new
keeps_as old new more is pair heard opening every end asks items =
    subst (KeepsFront old) (sym is) (record { pair = pair; end = end; asks = asks; flag = heard; items = (more, items); opening = opening; every = every })

-- the mutator pushed no item
keeps_all : (old : Playing) {mid : Playing} (new : Playing) → new ≡ mid → mid.front.pair ≡ old.front.pair
    → mid.heard.pair ≡ old.heard.pair → mid.opening ≡ old.opening → mid.every ≡ old.every → mid.to.end ≡ old.to.end → mid.asks.end ≡ old.asks.end → mid.to.items ≡ old.to.items → KeepsFront old new
keeps_all old new is pair heard opening every end asks items = keeps_as old new [] is pair heard opening every end asks (items ∙ sym (append-nil old.to.items))

same : (old new : Playing) → new ≡ old → KeepsFront old new
same old new is = keeps_all old new is refl refl refl refl refl refl refl

pub unmoved : (m : Playing) → KeepsFront m m
unmoved m = same m m refl

pub then : (old mid new : Playing) → KeepsFront old mid → KeepsFront mid new → KeepsFront old new
then old mid new a b = record {
  pair = b.pair ∙ a.pair;
  end = b.end ∙ a.end;
  asks = b.asks ∙ a.asks;
  flag = b.flag ∙ a.flag;
  items = (a.items.0 ++ b.items.0, b.items.1 ∙ ap (λ (items : List Item). items ++ b.items.0) a.items.1 ∙ append_assoc old.to.items a.items.0 b.items.0);
  opening = b.opening ∙ a.opening;
  every = b.every ∙ a.every;
}

refused_keeps : (stuck : Type 0) (old : Playing) (reason : Refusal) (new : Playing) → RefusesBatch stuck old reason new → KeepsFront old new
refused_keeps stuck old reason new (inl kept) = keeps_all old new kept.0 refl refl refl refl refl refl refl
refused_keeps stuck old reason new (inr (inl hears)) = keeps_all old new hears.2 refl refl refl refl refl refl refl
refused_keeps stuck old reason new (inr (inr held)) = keeps_all old new held.0 refl refl refl refl refl refl refl

owes_tick_keeps : (old : Playing) (asked : AskedBatch) (new : Playing) → OwesTick old asked new → KeepsFront old new
owes_tick_keeps old asked new (nothing, (ended, runs, is)) = keeps_all old new is runs.pair refl refl refl refl refl refl

pub run_keeps : (go stuck : Type 0) (old : Playing) (asked : AskedBatch) (given : Result (Unit {0}) Unplayed) (new : Playing) → RunsBatch go stuck old asked given new → KeepsFront old new
run_keeps go stuck old asked (Ok _) new ran = owes_tick_keeps old asked new ran.2
run_keeps go stuck old asked (Err unplayed) new refused = refused_keeps stuck old unplayed.reason new refused.1

pub takes_keeps : (old : Playing) (asked : AskedBatch) (new : Playing) → TakesAsk old asked new → KeepsFront old new
takes_keeps old asked new is = keeps_all old new is refl refl refl refl refl refl refl

plays_keep : (go stuck : Type 0) (old : Playing) (asked : AskedBatch) (given : Result (Unit {0}) Unplayed) (new : Playing) → Plays go stuck old asked given new → KeepsFront old new
plays_keep go stuck old asked given new plays = then old plays.taken new (takes_keeps old asked plays.taken plays.takes) (run_keeps go stuck plays.taken asked given new plays.runs)

-- the answer says if there was a batch
pub may_play : (go stuck : Type 0) (old new : Playing) (result : Option (Result (Unit {0}) Unplayed))
    → MatchOption result (new ≡ old) (λ given. (asked : AskedBatch) × Plays go stuck old asked given new) → MayPlay go stuck old new × KeepsFront old new
may_play go stuck old new None is = (inl is, same old new is)
may_play go stuck old new (Some given) plays = (inr (plays.0, given, plays.1), plays_keep go stuck old plays.0 given new plays.1)

-- the answer says which of the two it is
pub may_open : (old new : Playing) (given : Bool) → (given ≡ true → OwesSwitch old new) → (given ≡ false → OpensNone old new) → MayOpen old new
may_open old new true opened none = inr (opened refl)
may_open old new false opened none = inl (none refl)

pub opens_keeps : (old new : Playing) → MayOpen old new → KeepsFront old new
opens_keeps old new (inl (inl kept)) = same old new kept.0
opens_keeps old new (inl (inr found)) = keeps_all old new found.0 found.1.0 refl refl refl refl refl refl
opens_keeps old new (inr (up, nothing, is, opens)) = keeps_all old new is opens.0.0 refl refl refl refl refl refl

owed_keeps : (old new : Playing) (owed : Option Owed) → MatchOption owed (new ≡ old) (λ o. (new ≡ paid old o) ⊎ (new ≡ record old { to = with_refusal old.to; owed = None })) → KeepsFront old new
owed_keeps old new None is = same old new is
owed_keeps old new (Some (Tick ended)) (inl is) = keeps_as old new (items.Tick ended ∷ []) is refl refl refl refl refl refl refl
owed_keeps old new (Some (Switch number)) (inl is) = keeps_as old new (items.Switch number ∷ []) is refl refl refl refl refl refl refl
owed_keeps old new (Some o) (inr lost) = keeps_all old new lost refl refl refl refl refl refl refl

pub pays_keeps : (old new : Playing) → Pays old new → KeepsFront old new
pays_keeps old new pays = owed_keeps old new old.owed pays

pub mark_keeps : (old new : Playing) → MarksIfDue old new → KeepsFront old new
mark_keeps old new (inl none) = opens_keeps old new (inl none)
mark_keeps old new (inr (opened, owes, pays)) = then old opened new (opens_keeps old opened (inr owes)) (pays_keeps opened new pays)

pub stop_keeps : (old new : Playing) → StopsPlay old new → KeepsFront old new
stop_keeps old new (inl pushed) = keeps_as old new (items.Stop ∷ []) pushed refl refl refl refl refl refl refl
stop_keeps old new (inr lost) = keeps_all old new lost refl refl refl refl refl refl refl
