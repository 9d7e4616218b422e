-- The asks of the pushed ticks.
use Rattle.std.proofs.Common.{arith, ◌≡◌, inl, inr, ℕ, true, List, [], ◌∷◌, ◌++◌, All, Option, Some, None, sym, ap, ◌∙◌, subst, append-nil}
use Rattle.std.specs.Prelude.{Contains, IfSome, map, flat_map}
use Rattle.std.proofs.lemmas.Grind.{flat_map-append}
use Rattle.std.proofs.lemmas.List.{map-append}
use Rattle.std.proofs.lemmas.List.Quantifiers.{all_pairs_push}
use Rattle.std.proofs.lemmas.List.Elements.{All-nil, All-push, All-weaker, All-contains, Contains-push, Contains-append_left}
use Rattle.workers.specs.declared.item.Item.{Item}
use Rattle.workers.specs.declared.item.Ended.{Ended}
use Rattle.workers.specs.declared.item.Item.TheVariants.{Start, Tick, Switch, Stop}
use Rattle.workers.specs.declared.item.Owed.{Owed}
use Rattle.workers.specs.declared.item.Owed.TheVariants as owed
use Rattle.shared_capture.specs.States.{FrontState}
use Rattle.workers.specs.Posts.{AskedBatch, Unposted}
use Rattle.workers.specs.AskOrder.{AreNumbered, IsBefore, AreInTurn, asks_of, PlaysInTurn}
use Rattle.workers.specs.AskChannel.{Taking, with_ask}
use Rattle.workers.specs.Mutating.{Playing, item_of, Owes, IsMutator, TakesAsk, IsTaken, MarksIfDue, Pays}
use Rattle.workers.specs.Answering.{answers_of}
use Rattle.workers.proofs.AskOrders.{before_last}

asks_append : (xs ys : List Item) → asks_of (xs ++ ys) ≡ asks_of xs ++ asks_of ys
asks_append xs ys = ap (map (λ (a : Unposted). a.asked)) (flat_map-append answers_of xs ys) ∙ map-append (λ (a : Unposted). a.asked) (flat_map answers_of xs) (flat_map answers_of ys)

asks_switch : (items : List Item) (number : ℕ) → asks_of (items ++ Switch number ∷ []) ≡ asks_of items
asks_switch items number = asks_append items (Switch number ∷ []) ∙ append-nil (asks_of items)

asks_stop : (items late : List Item) → asks_of ((items ++ Stop ∷ []) ++ late) ≡ asks_of (items ++ late)
asks_stop items late = asks_append (items ++ Stop ∷ []) late
    ∙ ap (λ (l : List AskedBatch). l ++ asks_of late) (asks_append items (Stop ∷ []) ∙ append-nil (asks_of items)) ∙ sym (asks_append items late)

plays_as : (taken : List AskedBatch) (items more : List Item) → asks_of more ≡ asks_of items → PlaysInTurn taken items → PlaysInTurn taken more
plays_as taken items more is plays = record {
  numbered = plays.numbered;
  among = subst (All (Contains taken)) (sym is) plays.among;
  in_turn = subst AreInTurn (sym is) plays.in_turn;
}

pub plays_none : (taken : List AskedBatch) (tick : ℕ) → AreNumbered taken → PlaysInTurn taken (Start tick ∷ [])
plays_none taken tick numbered = record { numbered = numbered; among = All-nil (Contains taken); in_turn = λ i j d lt within. absurd (omega arith) }

pub plays_switch : (taken : List AskedBatch) (items : List Item) (number : ℕ) → PlaysInTurn taken items → PlaysInTurn taken (items ++ Switch number ∷ [])
plays_switch taken items number = plays_as taken items (items ++ Switch number ∷ []) (asks_switch items number)

pub plays_stop : (taken : List AskedBatch) (items late : List Item) → PlaysInTurn taken (items ++ late) → PlaysInTurn taken ((items ++ Stop ∷ []) ++ late)
plays_stop taken items late = plays_as taken (items ++ late) ((items ++ Stop ∷ []) ++ late) (asks_stop items late)

-- the tick of the ask that was taken last
pub plays_tick : (taken : List AskedBatch) (items : List Item) (ended : Ended) (asked : AskedBatch) → ended.answer.asked ≡ asked
    → Contains taken asked → All (λ (earlier : AskedBatch). IsBefore earlier asked) (asks_of items) → PlaysInTurn taken items → PlaysInTurn taken (items ++ Tick ended ∷ [])
plays_tick taken items ended asked own contains before plays =
    let is : asks_of (items ++ Tick ended ∷ []) ≡ asks_of items ++ asked ∷ [] = asks_append items (Tick ended ∷ []) ∙ ap (λ (a : AskedBatch). asks_of items ++ a ∷ []) own in record {
      numbered = plays.numbered;
      among = subst (All (Contains taken)) (sym is) (All-push (Contains taken) (asks_of items) asked plays.among contains);
      in_turn = subst AreInTurn (sym is) (all_pairs_push IsBefore (asks_of items) asked plays.in_turn before);
    }

plays_more : (taken : List AskedBatch) (items : List Item) (asked : AskedBatch) → AreNumbered (taken ++ asked ∷ []) → PlaysInTurn taken items → PlaysInTurn (taken ++ asked ∷ []) items
plays_more taken items asked numbered plays = record {
  numbered = numbered;
  among = All-weaker (Contains taken) (Contains (taken ++ asked ∷ [])) (λ (a : AskedBatch). Contains-append_left taken (asked ∷ []) a) (asks_of items) plays.among;
  in_turn = plays.in_turn;
}

-- ---- the mutator

-- it took one more ask
module _ (m : Playing) (asked : AskedBatch) (asks : Taking) (more : asks ≡ with_ask m.asks asked) where
  pub takes_as : (old : Playing) → m ≡ old → TakesAsk old asked (record m { asks = asks })
  takes_as old is = subst (λ (p : Playing). TakesAsk p asked (record m { asks = asks })) is (ap (λ (t : Taking). let p : Playing = record m { asks = t } in p) more)

  module _ (is : IsMutator m) (numbered : AreNumbered (m.asks.taken ++ asked ∷ [])) where
    owes_more : (owed : Option Owed) → IfSome owed (λ o. Owes m (item_of o)) → IfSome owed (λ o. Owes (record m { asks = with_ask m.asks asked }) (item_of o))
    owes_more None none = tt
    owes_more (Some o) owes = record {
      stopped = owes.stopped;
      goes = owes.goes;
      leads = owes.leads;
      in_turn = plays_more m.asks.taken (m.to.items ++ item_of o ∷ []) asked numbered owes.in_turn;
      rising = owes.rising;
    }

    pub takes_ask : IsMutator (record m { asks = asks })
    takes_ask = subst (λ (t : Taking). IsMutator (record m { asks = t })) (sym more) (record {
      history = is.history;
      in_turn = plays_more m.asks.taken m.to.items asked numbered is.in_turn;
      counts = is.counts;
      rising = is.rising;
      most = is.most;
      flags = is.flags;
      unchanged = is.unchanged;
      owes = owes_more m.owed is.owes;
    })

    pub took_ask : IsTaken (record m { asks = asks }) asked
    took_ask = subst (λ (t : Taking). IsTaken (record m { asks = t }) asked) (sym more) (
      Contains-push m.asks.taken asked,
      All-weaker (Contains m.asks.taken) (λ (a : AskedBatch). IsBefore a asked)
          (λ a taken. All-contains (λ (e : AskedBatch). IsBefore e asked) m.asks.taken a (before_last [] m.asks.taken asked numbered) taken) (asks_of m.to.items) is.in_turn.among,
    )

abbrev SameAsks : (old new : Playing) → Type 0
SameAsks old new = (new.asks.taken ≡ old.asks.taken) × (asks_of new.to.items ≡ asks_of old.to.items)

switch_paid : (old new : Playing) (front : FrontState) → Pays (record old { front = front; stopped = true; owed = Some (owed.Switch old.ended) }) new → SameAsks old new
switch_paid old new front (inl is) = (ap (λ (m : Playing). m.asks.taken) is, ap (λ (m : Playing). asks_of m.to.items) is ∙ asks_switch old.to.items old.ended)
switch_paid old new front (inr is) = (ap (λ (m : Playing). m.asks.taken) is, ap (λ (m : Playing). asks_of m.to.items) is)

-- a mark plays no ask
mark_plays_none : (old new : Playing) → MarksIfDue old new → SameAsks old new
mark_plays_none old new (inl (inl kept)) = (ap (λ (m : Playing). m.asks.taken) kept.0, ap (λ (m : Playing). asks_of m.to.items) kept.0)
mark_plays_none old new (inl (inr found)) = (ap (λ (m : Playing). m.asks.taken) found.0, ap (λ (m : Playing). asks_of m.to.items) found.0)
mark_plays_none old new (inr (opened, owes, pays)) = switch_paid old new opened.front (subst (λ (m : Playing). Pays m new) owes.2 pays)

pub marks_taken : (old new : Playing) (asked : AskedBatch) → MarksIfDue old new → IsTaken old asked → IsTaken new asked
marks_taken old new asked marks taken = let same = mark_plays_none old new marks in
    (subst (λ (l : List AskedBatch). Contains l asked) (sym same.0) taken.0, subst (All (λ (e : AskedBatch). IsBefore e asked)) (sym same.1) taken.1)
