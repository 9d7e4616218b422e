-- The mutator's invariant still holds after each of its acts.
use Rattle.std.proofs.Common.{arith, ◌≡◌, inl, inr, ℕ, ◌+◌, ◌<◌, ◌≤◌, Bool, true, false, List, [], ◌∷◌, ◌++◌, All, get_or, Option, Some, None, refl, sym, ap, ◌∙◌, subst, append-nil}
use Rattle.std.specs.Prelude.{IfSome}
use Rattle.std.proofs.lemmas.List.Elements.{All-nil, All-push, All-weaker}
use Rattle.world_ticks.specs.declared.tick.TheConstants.{TICK_MAX}
use Rattle.action_log.specs.declared.format.TheConstants.{SEGMENT_TICKS}
use Rattle.action_log.specs.Queue.{QueueEnd}
use Rattle.batches.specs.declared.batch.Request.{Request}
use Rattle.batches.specs.Answer.{answer, accepted_of, words_after}
use Rattle.shared_capture.specs.declared.view.Round.{Round}
use Rattle.shared_capture.specs.SignalWord.{SignalState}
use Rattle.shared_capture.specs.Rounds.{round}
use Rattle.shared_capture.specs.States.{FrontState, HasFlags, KeepsUntouched, SameRounds, marked_rounds}
use Rattle.workers.specs.declared.item.Item.{Item}
use Rattle.workers.specs.declared.item.Ended.{Ended}
use Rattle.workers.specs.declared.item.Item.TheVariants.{Start, Tick, Switch, Stop}
use Rattle.workers.specs.declared.item.Owed.{Owed}
use Rattle.workers.specs.declared.item.Owed.TheVariants as owed
use Rattle.workers.specs.Items.{Goes, items_end, end_after}
use Rattle.workers.specs.Posts.{AskedBatch}
use Rattle.workers.specs.AskOrder.{AreNumbered, PlaysInTurn}
use Rattle.workers.specs.AskChannel.{Taking}
use Rattle.workers.specs.Channel.{Pushing}
use Rattle.workers.specs.Worlds.{World, RanBatch, after_item, Leads, begun, world_of, IsUnchanged, AreUnchanged, IsLate, History, Counts}
use Rattle.workers.specs.Mutating.{Playing, item_of, Owes, IsTaken, IsMutator}
use Rattle.workers.proofs.Numbers.{end_more}
use Rattle.workers.proofs.PlayedAsks.{plays_tick, plays_switch, plays_stop, plays_none}

pub leads_snoc : (w : World) (items : List Item) (mid : World) (x : Item) (v : World) → Leads w items mid → after_item mid x v → Leads w (items ++ x ∷ []) v
leads_snoc w [] mid x v lead after = (v, subst (λ (u : World). after_item u x v) lead after, refl)
leads_snoc w (y ∷ ys) mid x v lead after = (lead.0, lead.1, leads_snoc lead.0 ys mid x v lead.2 after)

-- the pushed items lead to the present front
leads_now : (opening : List ℕ) (items : List Item) (stopped : Bool) (front : FrontState) → History opening items stopped front → stopped ≡ false → Leads (begun opening) items (world_of front)
leads_now opening items stopped front h up =
    let all = h.all_reported up in
    subst (λ (l : List Item). Leads (begun opening) l (world_of front)) (ap (λ (l : List Item). items ++ l) all.0 ∙ append-nil items)
    (subst (Leads (begun opening) (items ++ h.late)) all.1 h.leads)

-- ---- cells that aren't touched

-- another round is the last one
last_unchanged : (before : List ℕ) (rounds : List Round) (r s : Round) → AreUnchanged before (rounds ++ r ∷ [])
    → ((words : List ℕ) → IsUnchanged words r → IsUnchanged words s) → AreUnchanged before (rounds ++ s ∷ [])
last_unchanged before [] r s are same = (same before are.0, tt)
last_unchanged before (q ∷ rounds) r s are same = (are.0, last_unchanged q.words rounds r s are.1 same)

-- one more round
more_unchanged : (before : List ℕ) (rounds : List Round) (r s : Round) → AreUnchanged before (rounds ++ r ∷ []) → IsUnchanged r.words s → AreUnchanged before ((rounds ++ r ∷ []) ++ s ∷ [])
more_unchanged before [] r s are same = (are.0, (same, tt))
more_unchanged before (q ∷ rounds) r s are same = (are.0, more_unchanged q.words rounds r s are.1 same)

-- a batch was run
unchanged_ran : (opening : List ℕ) (old new : FrontState) → new.rounds ≡ old.rounds → KeepsUntouched old new → AreUnchanged opening (marked_rounds old 0) → AreUnchanged opening (marked_rounds new 0)
unchanged_ran opening old new rounds keeps are =
    subst (λ (l : List Round). AreUnchanged opening (l ++ round 0 new.live new.touched ∷ [])) (sym rounds)
    (last_unchanged opening old.rounds (round 0 old.live old.touched) (round 0 new.live new.touched) are (λ words same i no. let kept = keeps.cells i no in kept.1 ∙ same i kept.0))

-- a round was opened
unchanged_marked : (opening : List ℕ) (old new : FrontState) (tick : ℕ) → new.live ≡ old.live
    → new.rounds ≡ marked_rounds old tick → AreUnchanged opening (marked_rounds old 0) → AreUnchanged opening (marked_rounds new 0)
unchanged_marked opening old new tick live rounds are =
    let this : Round = round tick old.live old.touched in
    subst (λ (l : List Round). AreUnchanged opening (l ++ round 0 new.live new.touched ∷ [])) (sym rounds)
    (more_unchanged opening old.rounds this (round 0 new.live new.touched)
    (last_unchanged opening old.rounds (round 0 old.live old.touched) this are (λ words same. same)) (λ i no. ap (λ (words : List ℕ). get_or words i 0) live))

-- ---- the mutator

abbrev UpTo : ℕ → List Round → Type 0
UpTo base rounds = All (λ (r : Round). r.tick ≤ base) rounds

up_to_more : (base most : ℕ) (rounds : List Round) (r : Round) → base ≤ most → UpTo base rounds → r.tick ≤ most → UpTo most (rounds ++ r ∷ [])
up_to_more base most rounds r le known this =
    All-push (λ (s : Round). s.tick ≤ most) rounds r (All-weaker (λ (s : Round). s.tick ≤ base) (λ (s : Round). s.tick ≤ most) (λ s l. omega (arith, l, le)) rounds known) this

module _ (m : Playing) (front : FrontState) (heard : SignalState) (is : IsMutator m) (up : m.stopped ≡ false) where
  -- a batch was run, whose tick is owed
  pub owes_tick : (ended : Ended) (asked : AskedBatch) (requests : List Request) → requests ≡ ended.answer.asked.requests → ended.answer.asked ≡ asked → IsTaken m asked
      → SameRounds m.front front → ended.tick.list ≡ accepted_of requests m.front.live
      → ended.answer.text ≡ answer requests m.front.live ended.answer.number → ended.answer.number ≡ m.ended + 1 → front.live ≡ words_after requests m.front.live
      → (m.ended < TICK_MAX) × (m.since < SEGMENT_TICKS) → (HasFlags m.front → KeepsUntouched m.front front)
      → IsMutator (record m { front = front; heard = heard; stopped = true; owed = Some (owed.Tick ended) })
  owes_tick ended asked requests its own taken same tick text number words room keeps =
      let h = is.history in
      let counts = is.counts in
      let now = leads_now m.opening m.to.items m.stopped m.front h up in record {
        history = record {
          late = h.late;
          is_late = h.is_late;
          reported = h.reported;
          leads = h.leads;
          rounds = same.1 ∙ h.rounds;
          all_reported = λ no. absurd (cc);
        };
        in_turn = is.in_turn;
        counts = counts;
        rising = λ no. absurd (cc);
        most = is.most;
        flags = (keeps is.flags).flags;
        unchanged = unchanged_ran m.opening m.front front same.1 (keeps is.flags) is.unchanged;
        owes = record {
          stopped = refl;
          goes = (omega (arith, counts.count, room.1), omega (arith, counts.all, counts.count, room.0), omega (arith, counts.all, counts.count, number));
          leads = leads_snoc (begun m.opening) m.to.items (world_of m.front) (Tick ended) (world_of front) now
              (subst (λ (l : List Request). RanBatch l (world_of m.front) ended (world_of front)) its (record { tick = tick; text = text; words = words; rounds = same.1 }));
          in_turn = plays_tick m.asks.taken m.to.items ended asked own taken.0 taken.1 is.in_turn;
          rising = subst (UpTo (items_end m.to.items).base) (sym same.1) (is.rising up);
        };
      }

  -- a round is due
  switch_goes : (m.since ≡ 0 → ⊥) → Goes (items_end m.to.items) (Switch m.ended)
  switch_goes some = let counts = is.counts in (omega (arith, counts.all, counts.count), omega (arith, some, counts.count))

  -- a round was opened, whose switch is owed
  pub owes_switch : (m.since ≡ 0 → ⊥) → front.live ≡ m.front.live → front.rounds ≡ m.front.rounds ++ round m.ended m.front.live m.front.touched ∷ [] → HasFlags front
      → IsMutator (record m { front = front; heard = heard; stopped = true; owed = Some (owed.Switch m.ended) })
  owes_switch some live rounds flags =
      let now = leads_now m.opening m.to.items m.stopped m.front is.history up in
      let leads = leads_snoc (begun m.opening) m.to.items (world_of m.front) (Switch m.ended) (world_of front) now (live, (m.front.touched, rounds)) in
      let counts = is.counts in record {
        history = record {
          late = Switch m.ended ∷ [];
          is_late = inr (m.ended, refl, switch_goes some);
          reported = world_of front;
          leads = leads;
          rounds = refl;
          all_reported = λ no. absurd (cc);
        };
        in_turn = is.in_turn;
        counts = counts;
        rising = λ no. absurd (cc);
        most = is.most;
        flags = flags;
        unchanged = unchanged_marked m.opening m.front front m.ended live rounds is.unchanged;
        owes = record {
          stopped = refl;
          goes = switch_goes some;
          leads = leads;
          in_turn = plays_switch m.asks.taken m.to.items m.ended is.in_turn;
          rising = subst (UpTo m.ended) (sym rounds)
              (up_to_more (items_end m.to.items).base m.ended m.front.rounds (round m.ended m.front.live m.front.touched) (omega (arith, counts.all)) (is.rising up) (omega arith));
        };
      }

-- ---- the owed item

pub owed_item : (m : Playing) (o : Owed) → IsMutator m → m.owed ≡ Some o → Owes m (item_of o)
owed_item m o is some = subst (λ (x : Option Owed). IfSome x (λ o. Owes m (item_of o))) some is.owes

-- a mutator that hasn't stopped owes nothing
pub owes_nothing : (m : Playing) → IsMutator m → m.stopped ≡ false → m.owed ≡ None
owes_nothing m is up = by_owed m.owed refl
  where
    by_owed : (some : Option Owed) → m.owed ≡ some → m.owed ≡ None
    by_owed None same = same
    by_owed (Some o) same = absurd (let e : true ≡ false = sym (owed_item m o is same).stopped ∙ up in cc)

module _ (m : Playing) (to : Pushing) (is : IsMutator m) (left : Option Owed) (none : left ≡ None) where
  owes_none : (new : Playing) → IfSome left (λ o. Owes new (item_of o))
  owes_none new = subst (λ (x : Option Owed). IfSome x (λ o. Owes new (item_of o))) (sym none) tt

  -- the item was pushed: all acts of the front are stated
  paid_item : (item : Item) (ended since : ℕ) → Owes m item → to.items ≡ m.to.items ++ item ∷ [] → Counts (end_after (items_end m.to.items) item) ended since → ended ≤ TICK_MAX
      → IsMutator (record m { to = to; ended = ended; since = since; stopped = false; owed = left })
  paid_item item ended since owes pushed counts most =
      let last : items_end to.items ≡ end_after (items_end m.to.items) item = ap items_end pushed ∙ end_more m.to.items item in record {
        history = record {
          late = [];
          is_late = inl refl;
          reported = world_of m.front;
          leads = subst (λ (l : List Item). Leads (begun m.opening) l (world_of m.front)) (sym (append-nil to.items ∙ pushed)) owes.leads;
          rounds = refl;
          all_reported = λ _. (refl, refl);
        };
        in_turn = subst (PlaysInTurn m.asks.taken) (sym pushed) owes.in_turn;
        counts = subst (λ (e : QueueEnd). Counts e ended since) (sym last) counts;
        rising = λ _. subst (λ (e : QueueEnd). UpTo e.base m.front.rounds) (sym last) owes.rising;
        most = most;
        flags = is.flags;
        unchanged = is.unchanged;
        owes = owes_none _;
      }

  pub paid_tick : (ended : Ended) → Owes m (Tick ended) → to.items ≡ m.to.items ++ Tick ended ∷ []
      → IsMutator (record m { to = to; ended = m.ended + 1; since = m.since + 1; stopped = false; owed = left })
  paid_tick ended owes pushed = let counts = is.counts in
      paid_item (Tick ended) (m.ended + 1) (m.since + 1) owes pushed
      (record { count = ap (λ k. k + 1) counts.count; all = omega (arith, counts.all) }) (omega (arith, owes.goes.1, counts.all, counts.count))

  pub paid_switch : (number : ℕ) → Owes m (Switch number) → to.items ≡ m.to.items ++ Switch number ∷ []
      → IsMutator (record m { to = to; since = 0; stopped = false; owed = left })
  paid_switch number owes pushed = let counts = is.counts in
      paid_item (Switch number) m.ended 0 owes pushed (record { count = refl; all = omega (arith, owes.goes.0, counts.all, counts.count) }) is.most

-- the last round is that of the switch
pub last_owed : (w : World) (items : List Item) (number : ℕ) (v : World) → Leads w (items ++ Switch number ∷ []) v
    → (before : List Round) × (r : Round) × (v.rounds ≡ before ++ r ∷ []) × (r.tick ≡ number)
last_owed w [] number v lead = (w.rounds, round number w.words lead.1.1.0, ap (λ (x : World). x.rounds) lead.2 ∙ lead.1.1.1, refl)
last_owed w (x ∷ items) number v lead = last_owed lead.0 items number v lead.2

-- a mutator of a world whose start has ended
pub begins : (asks : Taking) (front : FrontState) (to : Pushing) (heard : SignalState) (opening : List ℕ) (tick every : ℕ)
    → front.rounds ≡ [] → to.items ≡ Start tick ∷ [] → opening ≡ front.live → tick ≤ TICK_MAX → HasFlags front → AreNumbered asks.taken
    → IsMutator (record { asks = asks; front = front; to = to; heard = heard; opening = opening; ended = tick; since = 0; every = every; stopped = false; owed = None })
begins asks front to heard opening tick every none start words most flags numbered = record {
  history = record {
    late = [];
    is_late = inl refl;
    reported = begun opening;
    leads = subst (λ (l : List Item). Leads (begun opening) (l ++ []) (begun opening)) (sym start) (begun opening, refl, refl);
    rounds = none;
    all_reported = λ _. (refl, λ i. record { words = words i; rounds = sym none i });
  };
  in_turn = subst (PlaysInTurn asks.taken) (sym start) (plays_none asks.taken tick numbered);
  counts = subst (λ (l : List Item). Counts (items_end l) tick 0) (sym start) (record { count = refl; all = omega arith });
  rising = λ _. subst (UpTo (items_end to.items).base) (sym none) (All-nil (λ (r : Round). r.tick ≤ (items_end to.items).base));
  most = most;
  flags = flags;
  unchanged = subst (λ (l : List Round). AreUnchanged opening (l ++ round 0 front.live front.touched ∷ [])) (sym none) ((λ i no. ap (λ (l : List ℕ). get_or l i 0) (sym words)), tt);
  owes = tt;
}

-- the last item, whether the mutator has stopped or not
leads_stop : (w : World) (items late : List Item) (v : World) → Leads w (items ++ late) v → Leads w ((items ++ Stop ∷ []) ++ late) v
leads_stop w [] late v lead = (w, refl, lead)
leads_stop w (y ∷ items) late v lead = (lead.0, lead.1, leads_stop lead.0 items late v lead.2)

late_end : (items more late : List Item) → items_end more ≡ items_end items → IsLate items late → IsLate more late
late_end items more late same (inl none) = inl none
late_end items more late same (inr one) = inr (one.0, one.1, subst (λ (e : QueueEnd). Goes e (Switch one.0)) (sym same) one.2)

owes_stop : (m : Playing) (to : Pushing) → to.items ≡ m.to.items ++ Stop ∷ [] → (owed : Option Owed)
    → IfSome owed (λ o. Owes m (item_of o)) → IfSome owed (λ o. Owes (record m { to = to }) (item_of o))
owes_stop m to pushed None none = tt
owes_stop m to pushed (Some o) owes =
    let item = item_of o in
    let last : items_end to.items ≡ items_end m.to.items = ap items_end pushed ∙ end_more m.to.items Stop in
    record {
      stopped = owes.stopped;
      goes = subst (λ (e : QueueEnd). Goes e item) (sym last) owes.goes;
      leads = subst (λ (l : List Item). Leads (begun m.opening) (l ++ item ∷ []) (world_of m.front)) (sym pushed) (leads_stop (begun m.opening) m.to.items (item ∷ []) (world_of m.front) owes.leads);
      in_turn = subst (λ (l : List Item). PlaysInTurn m.asks.taken (l ++ item ∷ [])) (sym pushed) (plays_stop m.asks.taken m.to.items (item ∷ []) owes.in_turn);
      rising = subst (λ (e : QueueEnd). UpTo (end_after e item).base m.front.rounds) (sym last) owes.rising;
    }

pub reported_stop : (m : Playing) (to : Pushing) → IsMutator m → to.items ≡ m.to.items ++ Stop ∷ [] → IsMutator (record m { to = to })
reported_stop m to is pushed =
    let last : items_end to.items ≡ items_end m.to.items = ap items_end pushed ∙ end_more m.to.items Stop in
    let h = is.history in record {
      history = record {
        late = h.late;
        is_late = late_end m.to.items to.items h.late last h.is_late;
        reported = h.reported;
        leads = subst (λ (l : List Item). Leads (begun m.opening) (l ++ h.late) h.reported) (sym pushed) (leads_stop (begun m.opening) m.to.items h.late h.reported h.leads);
        rounds = h.rounds;
        all_reported = h.all_reported;
      };
      in_turn =
          subst (PlaysInTurn m.asks.taken) (sym pushed)
          (subst (PlaysInTurn m.asks.taken) (append-nil (m.to.items ++ Stop ∷ [])) (plays_stop m.asks.taken m.to.items [] (subst (PlaysInTurn m.asks.taken) (sym (append-nil m.to.items)) is.in_turn)));
      counts = subst (λ (e : QueueEnd). Counts e m.ended m.since) (sym last) is.counts;
      rising = λ up. subst (λ (e : QueueEnd). UpTo e.base m.front.rounds) (sym last) (is.rising up);
      most = is.most;
      flags = is.flags;
      unchanged = is.unchanged;
      owes = owes_stop m to pushed m.owed is.owes;
    }
