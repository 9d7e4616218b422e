-- The world after actions, one more at a time.
use Rattle.std.proofs.Common.{◌+◌, ◌<◌, length, get_or, take, drop, add-one, suc, IsErr, ◌≡◌, ℕ, List, [], ◌∷◌, ◌++◌, Ok, Err, refl, ◌∙◌, ap, sym, Result, append_assoc, append-nil}
use Rattle.world_actions.specs.declared.action.Action.{Action}
use Rattle.world_actions.specs.declared.refusal.Refusal.{Refusal}
use Rattle.std.specs.Prelude.{Option, Some, None, slice_set}
use Rattle.world_actions.specs.Effect.{Write, effect, refusal_of, writes_of, written, unless}
use Rattle.std.proofs.Math.Seq.{drop-cons, take-suc}
use Rattle.std.specs.List.{flat_map}
use Rattle.std.proofs.lemmas.List.{take-append-drop, length-set}
use Rattle.world_ticks.specs.After.{and_then, after_actions, after_ticks, writes_then, accepted_writes, StopsAt}

-- actions one part after the other
pub after_actions-append : (world : List ℕ) (before after : List Action)
    → after_actions world (before ++ after) ≡ and_then (after_actions world before) (λ next. after_actions next after)
after_actions-append world [] after = refl
after_actions-append world (a ∷ more) after =
    elim (effect world a) as (λ r. and_then r (λ next. after_actions next (more ++ after)) ≡ and_then (and_then r (λ next. after_actions next more)) (λ next. after_actions next after)) [
      | Ok next ↦ after_actions-append next more after
      | Err e ↦ refl
    ]

-- one more action
pub after_actions-snoc : (world now : List ℕ) (before : List Action) (a : Action)
    → after_actions world before ≡ Ok now → after_actions world (before ++ a ∷ []) ≡ after_actions now (a ∷ [])
after_actions-snoc world now before a done =
    after_actions-append world before (a ∷ []) ∙ ap (λ r. and_then r (λ next. after_actions next (a ∷ []))) done

writes_then-append : (r : Result (List ℕ) Refusal) (now : List ℕ) (writes rest : List Write) (after : List ℕ → Result (List ℕ) Refusal) (one both : List ℕ → List Write)
    → ((next : List ℕ) → after next ≡ Ok now → both next ≡ one next ++ rest)
    → and_then r after ≡ Ok now → writes_then r writes both ≡ writes_then r writes one ++ rest
writes_then-append (Ok next) now writes rest after one both each done = ap (λ more. writes ++ more) (each next done) ∙ sym (append_assoc writes (one next) rest)
writes_then-append (Err e) now writes rest after one both each done = cc

-- the writes of actions that are all accepted, and then those of the rest
accepted_writes-append : (world now : List ℕ) (before after : List Action) → after_actions world before ≡ Ok now
    → accepted_writes world (before ++ after) ≡ accepted_writes world before ++ accepted_writes now after
accepted_writes-append world now [] after done = let same : world ≡ now = cc in ap (λ w. accepted_writes w after) same
accepted_writes-append world now (a ∷ more) after done =
    writes_then-append (effect world a) now (writes_of world a) (accepted_writes now after) (λ next. after_actions next more)
    (λ next. accepted_writes next more) (λ next. accepted_writes next (more ++ after))
    (λ next done_next. accepted_writes-append next now more after done_next) done

-- the writes of one action
writes_one : (r : Result (List ℕ) Refusal) (next : List ℕ) (writes : List Write) → r ≡ Ok next → writes_then r writes (λ n. []) ≡ writes
writes_one (Ok now) next writes is = append-nil writes
writes_one (Err e) next writes is = cc

-- the writes of one more accepted action
pub accepted_writes-snoc : (world now next : List ℕ) (before : List Action) (a : Action) → after_actions world before ≡ Ok now → effect now a ≡ Ok next
    → accepted_writes world (before ++ a ∷ []) ≡ accepted_writes world before ++ writes_of now a
accepted_writes-snoc world now next before a done accepted =
    accepted_writes-append world now before (a ∷ []) done
    ∙ ap (λ writes. accepted_writes world before ++ writes) (writes_one (effect now a) next (writes_of now a) accepted)

writes_none : (r : Result (List ℕ) Refusal) (writes : List Write) (more : List ℕ → List Write) → IsErr r → writes_then r writes more ≡ []
writes_none (Ok next) writes more stops = cc
writes_none (Err e) writes more stops = refl

-- an accepted action after those that are done
pub done_next : (world now next : List ℕ) (actions : List Action) (i : ℕ) (d : Action) → i < length actions
    → after_actions world (take i actions) ≡ Ok now → effect now (get_or actions i d) ≡ Ok next
    → after_actions world (take (i + 1) actions) ≡ Ok next
done_next world now next actions i d below done accepted =
    rw (add-one, take-suc actions i d below)
    (after_actions-snoc world now (take i actions) (get_or actions i d) done
    ∙ ap (λ r. and_then r (λ n. after_actions n [])) accepted)

-- the rest of the actions after an accepted one
pub rest_next : (now next : List ℕ) (actions : List Action) (i : ℕ) (d : Action) → i < length actions
    → effect now (get_or actions i d) ≡ Ok next
    → after_actions now (drop i actions) ≡ after_actions next (drop (i + 1) actions)
rest_next now next actions i d below accepted =
    rw (add-one, drop-cons actions i d below)
    (ap (λ r. and_then r (λ n. after_actions n (drop (suc i) actions))) accepted)

-- the writes of the actions up to an accepted one
pub writes_next : (world now next : List ℕ) (actions : List Action) (i : ℕ) (d : Action) → i < length actions
    → after_actions world (take i actions) ≡ Ok now → effect now (get_or actions i d) ≡ Ok next
    → accepted_writes world (take (i + 1) actions) ≡ accepted_writes world (take i actions) ++ writes_of now (get_or actions i d)
writes_next world now next actions i d below done accepted =
    rw (add-one, take-suc actions i d below)
    (accepted_writes-snoc world now next (take i actions) (get_or actions i d) done accepted)

-- the actions that are left stop at a refused action
pub rest_stops : (world now : List ℕ) (actions : List Action) (i : ℕ) (d : Action) → i < length actions
    → after_actions world actions ≡ after_actions now (drop i actions) → IsErr (effect now (get_or actions i d)) → IsErr (after_actions world actions)
rest_stops world now actions i d below rest stops =
    rw (rest, drop-cons actions i d below) (none (effect now (get_or actions i d)) (λ next. after_actions next (drop (suc i) actions)) stops)
  where
    none : (r : Result (List ℕ) Refusal) (after : List ℕ → Result (List ℕ) Refusal) → IsErr r → IsErr (and_then r after)
    none (Ok next) after is = cc
    none (Err e) after is = is

-- a refused action after those that are done
pub stops_at : (world now : List ℕ) (actions : List Action) (i : ℕ) (d : Action) → i < length actions
    → after_actions world (take i actions) ≡ Ok now → IsErr (effect now (get_or actions i d))
    → StopsAt world actions now
stops_at world now actions i d below done stops = record {
  before = take i actions;
  refused = get_or actions i d;
  later = drop (suc i) actions;
  split = rw (← drop-cons actions i d below) (sym (take-append-drop i actions));
  done = done;
  stops = stops;
}

-- the refused action and those after it write nothing
pub writes_stop : (world now : List ℕ) (actions : List Action) (i : ℕ) (d : Action) → i < length actions
    → after_actions world (take i actions) ≡ Ok now → IsErr (effect now (get_or actions i d))
    → accepted_writes world actions ≡ accepted_writes world (take i actions)
writes_stop world now actions i d below done stops =
    ap (accepted_writes world) (sym (take-append-drop i actions))
    ∙ (accepted_writes-append world now (take i actions) (drop i actions) done
    ∙ (ap (λ writes. accepted_writes world (take i actions) ++ writes) nothing ∙ append-nil (accepted_writes world (take i actions))))
  where
    nothing : accepted_writes now (drop i actions) ≡ []
    nothing = rw (drop-cons actions i d below) (writes_none (effect now (get_or actions i d)) (writes_of now (get_or actions i d)) (λ next. accepted_writes next (drop (suc i) actions)) stops)

written-append : (world : List ℕ) (first more : List Write) → written world (first ++ more) ≡ written (written world first) more
written-append world [] more = refl
written-append world (write ∷ first) more = written-append (slice_set world write.cell write.word) first more

-- an action that is accepted has the world that its writes make
accepted_is : (refusal : Option Refusal) (made next : List ℕ) → unless refusal made ≡ Ok next → made ≡ next
accepted_is None made next is = cc
accepted_is (Some refusal) made next is = cc

written_then : (world : List ℕ) (r : Result (List ℕ) Refusal) (after : List ℕ) (writes : List Write) (onwards : List ℕ → Result (List ℕ) Refusal) (more : List ℕ → List Write)
    → ((next : List ℕ) → r ≡ Ok next → written world writes ≡ next) → ((next : List ℕ) → onwards next ≡ Ok after → written next (more next) ≡ after)
    → and_then r onwards ≡ Ok after → written world (writes_then r writes more) ≡ after
written_then world (Ok next) after writes onwards more one each done =
    written-append world writes (more next) ∙ (ap (λ w. written w (more next)) (one next refl) ∙ each next done)
written_then world (Err e) after writes onwards more one each done = cc

-- the world after actions is the world before with their writes
pub written-accepted_writes : (world after : List ℕ) (actions : List Action) → after_actions world actions ≡ Ok after → written world (accepted_writes world actions) ≡ after
written-accepted_writes world after [] done = cc
written-accepted_writes world after (a ∷ actions) done =
    written_then world (effect world a) after (writes_of world a) (λ next. after_actions next actions) (λ next. accepted_writes next actions)
    (λ next is. accepted_is (refusal_of world a) (written world (writes_of world a)) next is)
    (λ next rest. written-accepted_writes next after actions rest) done

length-written : (world : List ℕ) (writes : List Write) → length (written world writes) ≡ length world
length-written world [] = refl
length-written world (write ∷ writes) = length-written (slice_set world write.cell write.word) writes ∙ length-set world write.cell write.word

-- actions leave the number of cells
pub length-after_actions : (world after : List ℕ) (actions : List Action) → after_actions world actions ≡ Ok after → length after ≡ length world
length-after_actions world after actions done =
    ap length (sym (written-accepted_writes world after actions done)) ∙ length-written world (accepted_writes world actions)

pub length-after_ticks : (first after : List ℕ) (ticks : List (List Action)) → after_ticks first ticks ≡ Ok after → length after ≡ length first
length-after_ticks first after ticks done = length-after_actions first after (flat_map (λ tick. tick) ticks) done
