-- The effect of each step on the log keeper's data for recovery.
use Rattle.std.proofs.Common.{◌≡◌, ◌⊎◌, inl, inr, IsTrue, ℕ, ◌+◌, ◌-◌, ◌<◌, ◌≤◌, Bool, true, false, List, [], ◌++◌, length, refl, sym, ap, subst, ◌∙◌, arith, length-append}
use Rattle.std.specs.Prelude.{Option, Some, None, if◌then◌else◌}
use Rattle.file_format.specs.declared.slot.Slot.{Slot}
use Rattle.file_format.specs.Gate.{HasShutGate}
use Rattle.file_format.specs.Slot.{of_slot, other_slot}
use Rattle.action_log.specs.declared.format.TheConstants.{GROUP_TICKS}
use Rattle.action_log.specs.declared.phase.Phase.{Phase}
use Rattle.action_log.specs.declared.phase.Phase.TheVariants.{Retiring, RetiringSync, Ready, BodySync, Gate, GateSync, Closing, ClosingSync, Header, HeaderSync, Opening, OpeningSync}
use Rattle.action_log.specs.declared.outcome.Outcome.{Outcome}
use Rattle.action_log.specs.declared.outcome.Outcome.TheVariants as outcome
use Rattle.action_log.specs.declared.progress.Progress.{Progress}
use Rattle.action_log.specs.declared.record.Record.{Record}
use Rattle.action_log.specs.declared.answer.LogAnswer.{LogAnswer}
use Rattle.action_log.specs.declared.answer.LogAnswer.TheVariants as answer
use Rattle.action_log.specs.Segment.{Tick, joined, Segment, ClosedSegment, OpenSegment, IsSegment}
use Rattle.action_log.specs.Queue.{group_of, ticks_before, StandBefore}
use Rattle.action_log.specs.Progress.{is_of_start, IsInOrder, rest_in, rest_of, switch_in, switch_of}
use Rattle.action_log.specs.Written.{Written}
use Rattle.action_log.specs.Files.{CurrentFits, Holds, Endures}
use Rattle.action_log.specs.Steps.{phase_after, after_call, with_pending, with_group_kept, renewed, goes_on, Moved, answer_by}
use Rattle.action_log.specs.Logs.{Logs, started, Start, Journal, InStart, Writing, LogPlace}
use Rattle.action_log.specs.LogSteps.{TakesGroup, TakesSwitch, LogsStep, StepIn}
use Rattle.action_log.specs.Stands.{logs_of, StandsAfterStart, StandsInStart, StandsBy, Stands}
use Rattle.action_log.proofs.QueueLemmas.{group_front, group_most, length_group}
use Rattle.action_log.proofs.GroupLemmas.{joined_with, closed_reads}
use Rattle.action_log.proofs.StepLemmas.{pending_at, current_at, shut_is_closed}
use Rattle.action_log.proofs.MovedLemmas.{rest_on, of_start_at}
use Rattle.action_log.proofs.SlotLemmas.{HoldsNext, LastsNext}

-- ---- by phase

-- a job that continues isn't done
some_rest : (p : Phase) (shut : Bool) → goes_on p false ≡ true → 1 ≤ rest_in (phase_after p shut false) shut
some_rest Retiring true is = omega arith
some_rest Retiring false is = omega arith
some_rest RetiringSync true is = omega arith
some_rest RetiringSync false is = omega arith
some_rest Ready shut is = absurd cc
some_rest BodySync shut is = omega arith
some_rest Gate shut is = omega arith
some_rest GateSync shut is = absurd cc
some_rest Closing shut is = omega arith
some_rest ClosingSync shut is = omega arith
some_rest Header shut is = omega arith
some_rest HeaderSync shut is = omega arith
some_rest Opening shut is = omega arith
some_rest OpeningSync shut is = absurd cc

-- after the start the switch in work is the same after a call
same_switch : (p : Phase) (shut failed : Bool) (next_base : ℕ) → goes_on p failed ≡ true → IsTrue (is_of_start p false) → switch_in (phase_after p shut failed) next_base ≡ switch_in p next_base
same_switch Retiring shut failed next_base is start = absurd cc
same_switch RetiringSync shut failed next_base is start = absurd cc
same_switch Ready shut failed next_base is start = absurd cc
same_switch BodySync shut true next_base is start = refl
same_switch BodySync shut false next_base is start = refl
same_switch Gate shut failed next_base is start = refl
same_switch GateSync shut true next_base is start = refl
same_switch GateSync shut false next_base is start = absurd cc
same_switch Closing shut failed next_base is start = refl
same_switch ClosingSync shut true next_base is start = refl
same_switch ClosingSync shut false next_base is start = refl
same_switch Header shut failed next_base is start = refl
same_switch HeaderSync shut true next_base is start = refl
same_switch HeaderSync shut false next_base is start = refl
same_switch Opening shut failed next_base is start = refl
same_switch OpeningSync shut true next_base is start = refl
same_switch OpeningSync shut false next_base is start = absurd cc

switch_at : (phase : Phase) (k : Progress) → k.phase ≡ phase → switch_of k ≡ switch_in phase k.next_base
switch_at phase k is = ap (λ (p : Phase). switch_in p k.next_base) is

begun_switch : (shut : Bool) (tick : ℕ) → switch_in (if shut then HeaderSync else ClosingSync) tick ≡ Some tick
begun_switch true tick = refl
begun_switch false tick = refl

-- a keeper in the start isn't in these phases
never_ready : (k : Progress) → k.phase ≡ Ready → k.starting ≡ true → IsInOrder k → ⊥
never_ready k is starting order = let held : IsTrue (is_of_start Ready true) = subst (λ (s : Bool). IsTrue (is_of_start Ready s)) starting (of_start_at k Ready is order) in absurd cc

never_acked : (k : Progress) → k.phase ≡ GateSync → k.starting ≡ true → IsInOrder k → ⊥
never_acked k is starting order = let held : IsTrue (is_of_start GateSync true) = subst (λ (s : Bool). IsTrue (is_of_start GateSync s)) starting (of_start_at k GateSync is order) in absurd cc

module _ (old new : Progress) (queue left : List Record) (a b new_a new_b : List ℕ) (leaves_a leaves_b new_leaves_a new_leaves_b : List ℕ → Type 0) where
  -- the place of the log after the step
  abbrev pub Next : Outcome → Journal → (n : ℕ) → Type 0
  Next o journal n = (next : LogPlace) × Stands new new_a new_b new_leaves_a new_leaves_b next × StepIn journal n queue (answer_by o) next left

  -- ---- in the start

  -- the start continues
  still_starting : (start : Start) (n m : ℕ) → new.starting ≡ old.starting → new.next_base ≡ old.next_base → 0 < m
      → (new.down ≡ false → m ≡ rest_of new) → (s : StandsInStart old a b leaves_a leaves_b start n)
      → Holds new s.written new_a new_b → Endures new s.written new_a new_b new_leaves_a new_leaves_b → StandsInStart new new_a new_b new_leaves_a new_leaves_b (record start { begun = true }) m
  still_starting start n m same next_base some is s holds endures = record {
    written = s.written;
    in_work = same ∙ s.in_work;
    tick = s.tick ∙ sym next_base;
    some_left = some;
    left_is = is;
    holds = holds;
    endures = endures;
    before_a = s.before_a;
    before_b = s.before_b;
    only_a = λ first. absurd cc;
    only_b = λ first. absurd cc;
  }

  in_start : (o : Outcome) (start : Start) (n : ℕ) → Moved o old new queue left → HoldsNext o old new queue a b new_a new_b
      → LastsNext o old new queue a b new_a new_b leaves_a leaves_b new_leaves_a new_leaves_b
      → StandsInStart old a b leaves_a leaves_b start n → Next o (InStart start) n
  in_start outcome.Idle start n moved holds lasts s = absurd (never_ready old moved.1 s.in_work s.holds.in_order)
  in_start (outcome.TookGroup failed) start n moved holds lasts s = absurd (never_ready old moved.1 s.in_work s.holds.in_order)
  in_start (outcome.TookSwitch failed) start n moved holds lasts s = absurd (never_ready old moved.2 s.in_work s.holds.in_order)
  in_start (outcome.Acked tick) start n moved holds lasts s = absurd (never_acked old moved.1 s.in_work s.holds.in_order)
  in_start outcome.Working start n moved holds lasts s =
      let rest = rest_on old.phase old.other_shut moved.1 in
      let some = some_rest old.phase old.other_shut moved.1 in
      let is = s.left_is moved.0 in
      let next_rest = ap (λ (k : Progress). rest_of k) moved.2 in (
        record { journal = InStart (record start { begun = true }); left = n - 1 },
        still_starting start n (n - 1) (ap (λ (k : Progress). k.starting) moved.2) (ap (λ (k : Progress). k.next_base) moved.2)
            (omega (arith, rest, some, is)) (λ up. omega (arith, rest, is, next_rest)) s (holds s.written s.holds) (lasts s.written s.holds s.endures),
        (inl (omega (arith, rest, some, is), refl), moved.3),
      )
  in_start outcome.Failed start n moved holds lasts s =
      let down : new.down ≡ true = ap (λ (k : Progress). k.down) moved.2 in (
        record { journal = InStart (record start { begun = true }); left = n },
        still_starting start n n (ap (λ (k : Progress). k.starting) moved.2) (ap (λ (k : Progress). k.next_base) moved.2)
            s.some_left (λ up. absurd cc) s (holds s.written s.holds) (lasts s.written s.holds s.endures),
        ((s.some_left, refl), moved.3),
      )
  in_start outcome.Down start n moved holds lasts s =
      let down : new.down ≡ true = ap (λ (k : Progress). k.down) moved.1 ∙ moved.0 in (
        record { journal = InStart (record start { begun = true }); left = n },
        still_starting start n n (ap (λ (k : Progress). k.starting) moved.1) (ap (λ (k : Progress). k.next_base) moved.1)
            s.some_left (λ up. absurd cc) s (holds s.written s.holds) (lasts s.written s.holds s.endures),
        ((s.some_left, refl), moved.2),
      )
  in_start outcome.Switched start n moved holds lasts s =
      let file = of_slot old.current a b in
      let held = current_at OpeningSync old s.written file (of_slot old.current b a) moved.1 s.holds.fits in
      let shut : HasShutGate file = subst (λ (x : Bool). CurrentFits OpeningSync x old.down old.base s.written file) s.in_work held in
      let is_b = s.holds.in_order.first_is_a s.in_work in
      let next = renewed s.written file in (
        record { journal = Writing (started start.tick); left = 0 },
        (
          record {
            written = next;
            over = ap (λ (k : Progress). k.starting) moved.2;
            holds = holds s.written s.holds;
            endures = lasts s.written s.holds s.endures;
            before = shut_is_closed file shut;
            is =
                ap (λ (t : ℕ). started t) s.tick ∙ ap (λ (x : Slot). record (started old.next_base) { slot = other_slot x })
                (sym is_b) ∙ ap (λ (k : Progress). logs_of k next ClosedSegment) (sym moved.2);
          },
          refl,
        ),
        (inr (s.left_is moved.0 ∙ ap (λ (p : Phase). rest_in p old.other_shut) moved.1, refl), moved.3),
      )

  -- ---- after the start

  -- the place of the log that the keeper represents after a step
  after_start : (logs : Logs) (n : ℕ) (o : Outcome) (written : Written) (before : Segment) → n ≡ 0 → new.starting ≡ false
      → Holds new written new_a new_b → Endures new written new_a new_b new_leaves_a new_leaves_b → IsSegment written.before before
      → LogsStep logs queue (answer_by o) (logs_of new written before) left → Next o (Writing logs) n
  after_start logs n o written before none over holds endures was step = (
    record { journal = Writing (logs_of new written before); left = n },
    (record { written = written; over = over; holds = holds; endures = endures; before = was; is = refl }, none),
    (logs_of new written before, refl, step),
  )

  module _ (logs : Logs) (n : ℕ) (none : n ≡ 0) (s : StandsAfterStart old a b leaves_a leaves_b logs) where
    abbrev now : Logs
    now = logs_of old s.written logs.before

    abbrev current : List ℕ
    current = of_slot old.current a b

    -- the step, of these logs
    stepped_as : (given : LogAnswer) (next : Logs) → LogsStep now queue given next left → LogsStep logs queue given next left
    stepped_as given next step = subst (λ (l : Logs). LogsStep l queue given next left) (sym s.is) step

    -- the job continues after its call
    went_on : (failed : Bool) → goes_on old.phase failed ≡ true → new ≡ after_call old failed → logs_of new s.written logs.before ≡ now
    went_on failed is moved =
        let running = subst (λ (x : Bool). IsTrue (is_of_start old.phase x)) s.over s.holds.in_order.of_start in
        ap (λ (k : Progress). logs_of k s.written logs.before) moved ∙ ap (λ (x : Option ℕ). record now { switch = x }) (same_switch old.phase old.other_shut failed old.next_base is running)

    took : (failed : Bool) → Moved (outcome.TookGroup failed) old new queue left → TakesGroup now queue (logs_of new (with_pending s.written (group_of GROUP_TICKS queue)) logs.before) left
    took failed moved =
        let group = group_of GROUP_TICKS queue in
        let no_switch = switch_at Ready old moved.1 in
        record {
          idle = (pending_at Ready old s.written current (of_slot old.current b a) moved.1 s.holds.fits, no_switch);
          group = group;
          some = moved.2.0;
          few = length_group GROUP_TICKS queue;
          in_front = subst (λ (q : List Record). StandBefore group queue q) (sym moved.4) (group_front GROUP_TICKS queue);
          most = subst (λ (q : List Record). (length group ≡ GROUP_TICKS) ⊎ (ticks_before q ≡ [])) (sym moved.4) (group_most GROUP_TICKS queue);
          is = ap (λ (k : Progress). logs_of k (with_pending s.written group) logs.before) moved.3 ∙ ap (λ (x : Option ℕ). record now { pending = group; switch = x }) (sym no_switch);
        }

    switched : (failed : Bool) → Moved (outcome.TookSwitch failed) old new queue left → TakesSwitch now queue (logs_of new s.written logs.before) left
    switched failed moved =
        record {
          idle = (pending_at Ready old s.written current (of_slot old.current b a) moved.2 s.holds.fits, switch_at Ready old moved.2);
          tick = moved.0;
          in_front = moved.3;
          is = ap (λ (k : Progress). logs_of k s.written logs.before) moved.4 ∙ ap (λ (x : Option ℕ). record now { switch = x }) (begun_switch old.other_shut moved.0);
        }

    writing : (o : Outcome) → Moved o old new queue left → HoldsNext o old new queue a b new_a new_b
        → LastsNext o old new queue a b new_a new_b leaves_a leaves_b new_leaves_a new_leaves_b → Next o (Writing logs) n
    writing outcome.Idle moved holds lasts =
        let next = logs_of new s.written logs.before in
        let same : next ≡ now = ap (λ (k : Progress). logs_of k s.written logs.before) moved.3 in
        after_start logs n outcome.Idle s.written logs.before none (ap (λ (k : Progress). k.starting) moved.3 ∙ s.over) (holds s.written s.holds) (lasts s.written s.holds s.endures) s.before
        (stepped_as answer.Idle next ((pending_at Ready old s.written current (of_slot old.current b a) moved.1 s.holds.fits, switch_at Ready old moved.1), moved.2, same, moved.4))
    writing (outcome.TookGroup true) moved holds lasts =
        let next = with_pending s.written (group_of GROUP_TICKS queue) in
        after_start logs n (outcome.TookGroup true) next logs.before none (ap (λ (k : Progress). k.starting) moved.3 ∙ s.over) (holds s.written s.holds) (lasts s.written s.holds s.endures) s.before
        (stepped_as answer.Down (logs_of new next logs.before) (inr (inl (took true moved))))
    writing (outcome.TookGroup false) moved holds lasts =
        let next = with_pending s.written (group_of GROUP_TICKS queue) in
        after_start logs n (outcome.TookGroup false) next logs.before none (ap (λ (k : Progress). k.starting) moved.3 ∙ s.over) (holds s.written s.holds) (lasts s.written s.holds s.endures) s.before
        (stepped_as answer.Working (logs_of new next logs.before) (inl (inr (inl (took false moved)))))
    writing (outcome.TookSwitch true) moved holds lasts =
        after_start logs n (outcome.TookSwitch true) s.written logs.before none
        (ap (λ (k : Progress). k.starting) moved.4 ∙ s.over) (holds s.written s.holds) (lasts s.written s.holds s.endures) s.before
        (stepped_as answer.Down (logs_of new s.written logs.before) (inr (inr (switched true moved))))
    writing (outcome.TookSwitch false) moved holds lasts =
        after_start logs n (outcome.TookSwitch false) s.written logs.before none
        (ap (λ (k : Progress). k.starting) moved.4 ∙ s.over) (holds s.written s.holds) (lasts s.written s.holds s.endures) s.before
        (stepped_as answer.Working (logs_of new s.written logs.before) (inl (inr (inr (switched false moved)))))
    writing outcome.Working moved holds lasts =
        after_start logs n outcome.Working s.written logs.before none (ap (λ (k : Progress). k.starting) moved.2 ∙ s.over) (holds s.written s.holds) (lasts s.written s.holds s.endures) s.before
        (stepped_as answer.Working (logs_of new s.written logs.before) (inl (inl (went_on false moved.1 moved.2, moved.3))))
    writing outcome.Failed moved holds lasts =
        after_start logs n outcome.Failed s.written logs.before none (ap (λ (k : Progress). k.starting) moved.2 ∙ s.over) (holds s.written s.holds) (lasts s.written s.holds s.endures) s.before
        (stepped_as answer.Down (logs_of new s.written logs.before) (inl (went_on true moved.1 moved.2, moved.3)))
    writing outcome.Down moved holds lasts =
        after_start logs n outcome.Down s.written logs.before none (ap (λ (k : Progress). k.starting) moved.1 ∙ s.over) (holds s.written s.holds) (lasts s.written s.holds s.endures) s.before
        (stepped_as answer.Down (logs_of new s.written logs.before) (inl (ap (λ (k : Progress). logs_of k s.written logs.before) moved.1, moved.2)))
    writing outcome.Switched moved holds lasts =
        let fits = s.holds.fits in
        let sum = length-append (joined s.written.groups) s.written.pending in
        let none_pending = pending_at OpeningSync old s.written current (of_slot old.current b a) moved.1 fits in
        let groups = subst (λ (x : Bool). CurrentFits OpeningSync x old.down old.base s.written current) s.over (current_at OpeningSync old s.written current (of_slot old.current b a) moved.1 fits) in
        let reads = closed_reads old.base s.written.groups current groups.0 fits.groups
        (omega (arith, s.holds.in_order.few, fits.count, sum)) (omega (arith, s.holds.in_order.numbered, fits.count, sum)) groups.1 in
        let next = renewed s.written current in
        let before = OpenSegment old.base (joined s.written.groups) in
        after_start logs n outcome.Switched next before none (ap (λ (k : Progress). k.starting) moved.2) (holds s.written s.holds) (lasts s.written s.holds s.endures) reads
        (stepped_as answer.Working (logs_of new next before) (inr (record {
          tick = old.next_base;
          in_work = switch_at OpeningSync old moved.1;
          no_group = none_pending;
          is = ap (λ (k : Progress). logs_of k next before) moved.2;
          queue_is = moved.3;
        })))
    writing (outcome.Acked tick) moved holds lasts =
        let fits = s.holds.fits in
        let no_switch = switch_at GateSync old moved.1 in
        let group = pending_at GateSync old s.written current (of_slot old.current b a) moved.1 fits in
        let next = with_group_kept s.written in
        let kept = joined s.written.groups ++ s.written.pending in
        after_start logs n (outcome.Acked tick) next logs.before none (ap (λ (k : Progress). k.starting) moved.2 ∙ s.over) (holds s.written s.holds) (lasts s.written s.holds s.endures) s.before
        (stepped_as (answer.Acked tick) (logs_of new next logs.before) (record {
          some = group.0.0;
          no_switch = no_switch;
          tick_is = moved.3 ∙ ap (λ (m : ℕ). old.base + m) fits.count;
          is = ap (λ (k : Progress). logs_of k next logs.before) moved.2
              ∙ ap (λ (ticks : List Tick). record now { kept = ticks; pending = []; switch = None }) (joined_with s.written.groups s.written.pending)
              ∙ ap (λ (x : Option ℕ). record now { kept = kept; pending = []; switch = x }) (sym no_switch);
          queue_is = moved.4;
        }))

  step_in : (o : Outcome) (journal : Journal) (n : ℕ) → Moved o old new queue left → HoldsNext o old new queue a b new_a new_b
      → LastsNext o old new queue a b new_a new_b leaves_a leaves_b new_leaves_a new_leaves_b
      → StandsBy old a b leaves_a leaves_b journal n → Next o journal n
  step_in o (InStart start) n moved holds lasts stands = in_start o start n moved holds lasts stands
  step_in o (Writing logs) n moved holds lasts stands = writing logs n stands.1 stands.0 o moved holds lasts

  -- every step is one of the log's
  pub journal_step : (o : Outcome) (place : LogPlace) → Moved o old new queue left → HoldsNext o old new queue a b new_a new_b
      → LastsNext o old new queue a b new_a new_b leaves_a leaves_b new_leaves_a new_leaves_b
      → Stands old a b leaves_a leaves_b place → Next o place.journal place.left
  journal_step o place moved holds lasts stands = step_in o place.journal place.left moved holds lasts stands
