-- The content of the log's files continues with each step of its keeper.
use Rattle.std.proofs.Common.{arith, ◌≡◌, ◌⊎◌, inl, inr, ℕ, ◌+◌, ◌≤◌, Bool, true, false, IsTrue, List, [], ◌∷◌, ◌++◌, length}
use Rattle.std.proofs.Common.{length-append, append-nil, refl, sym, ap, ◌∙◌, subst, Option, Some, None, IfSome}
use Rattle.std.specs.Prelude.{Contains}
use Rattle.std.proofs.lemmas.List.{append_assoc}
use Rattle.std.proofs.lemmas.List.Elements.{Contains-push}
use Rattle.action_log.specs.declared.record.Record.{Record}
use Rattle.action_log.specs.declared.record.Record.TheVariants as records
use Rattle.action_log.specs.declared.answer.LogAnswer.{LogAnswer}
use Rattle.action_log.specs.declared.answer.LogAnswer.TheVariants as answer
use Rattle.action_log.specs.declared.phase.Phase.{Phase}
use Rattle.action_log.specs.declared.phase.Phase.TheVariants as phases
use Rattle.action_log.specs.declared.progress.Progress.{Progress}
use Rattle.action_log.specs.Segment.{Tick, OpenSegment, joined}
use Rattle.action_log.specs.Queue.{StandBefore}
use Rattle.action_log.specs.Progress.{is_of_start, switch_in, QueueFollowsIn, QueueFollows}
use Rattle.action_log.specs.Logs.{Logs}
use Rattle.action_log.specs.LogSteps.{is_idle, TakesGroup, TakesSwitch, GoesOn, EndsSwitch, Acknowledges, LogsStep}
use Rattle.action_log.specs.Stands.{StandsAfterStart}
use Rattle.recovery.specs.Events.{with_work}
use Rattle.workers.specs.declared.log_writer.Log.{Log}
use Rattle.action_log.specs.Cover.{Covers, CoverStep}
use Rattle.workers.specs.Covering.{LeavesOut, IsCovered, Advances}
use Rattle.workers.specs.Logging.{LogContent, after_record, after_records, content_in, HasOneJob, HasAcked, LogStands, Writes}
use Rattle.disk_model.specs.declared.disk.Disk.{Ghosts}
use Rattle.workers.proofs.Coverings.{leaves_more, leaves_later, covered_later, cover_leaves}

pub after_append : (reported : LogContent) (xs ys : List Record) → after_records reported (xs ++ ys) ≡ after_records (after_records reported xs) ys
after_append reported [] ys = refl
after_append reported (x ∷ xs) ys = after_append (after_record reported x) xs ys

group_reported : (group : List Tick) (queue left : List Record) (reported : LogContent) → StandBefore group queue left
    → (taken : List Record) × (queue ≡ taken ++ left) × (after_records reported taken ≡ record reported { ticks = reported.ticks ++ group })
group_reported [] queue left reported s = ([], s, ap (λ (t : List Tick). record reported { ticks = t }) (sym (append-nil reported.ticks)))
group_reported (actions ∷ ticks) [] left reported s = absurd s
group_reported (actions ∷ ticks) (records.Tick first ∷ queue) left reported s =
    let rest = group_reported ticks queue left (after_record reported (records.Tick first)) s.1 in (
      records.Tick first ∷ rest.0,
      ap (λ (l : List Record). records.Tick first ∷ l) rest.1,
      rest.2 ∙ ap (λ (t : List Tick). record reported { ticks = t }) (append_assoc reported.ticks (first.list ∷ []) ticks ∙ ap (λ (a : Tick). reported.ticks ++ a ∷ ticks) s.0),
    )
group_reported (actions ∷ ticks) (records.Switch tick ∷ queue) left reported s = absurd s

-- the files have the records that a step has written, and at most one job is in work
abbrev StepReports : Logs → List Record → Logs → List Record → Type 0
StepReports logs queue next left =
    (written : List Record) × (with_work logs.switch queue ≡ written ++ with_work next.switch left) × (content_in next ≡ after_records (content_in logs) written) × HasOneJob next

same_work : (queue left : List Record) (old new : Option ℕ) → new ≡ old → left ≡ queue → with_work old queue ≡ with_work new left
same_work queue left old new switch rest = ap (λ (s : Option ℕ). with_work s queue) (sym switch) ∙ ap (λ (q : List Record). with_work new q) (sym rest)

same_reported : (logs : Logs) (queue : List Record) (next : Logs) (left : List Record) → next ≡ logs → left ≡ queue → HasOneJob logs → StepReports logs queue next left
same_reported logs queue next left is rest one = ([], same_work queue left logs.switch next.switch (ap (λ (l : Logs). l.switch) is) rest, ap content_in is, subst HasOneJob (sym is) one)

no_switch_one : (logs : Logs) → logs.switch ≡ None → HasOneJob logs
no_switch_one logs none = subst (λ (s : Option ℕ). IfSome s (λ _. logs.pending ≡ [])) (sym none) tt

takes_group_reported : (logs : Logs) (queue : List Record) (next : Logs) (left : List Record) → TakesGroup logs queue next left → StepReports logs queue next left
takes_group_reported logs queue next left t =
    let group = group_reported t.group queue left (content_in logs) t.in_front in
    let none : next.switch ≡ None = ap (λ (l : Logs). l.switch) t.is ∙ t.idle.1 in
    let kept : logs.kept ++ logs.pending ≡ logs.kept = ap (λ (p : List Tick). logs.kept ++ p) t.idle.0 ∙ append-nil logs.kept in (
      group.0,
      ap (λ (s : Option ℕ). with_work s queue) t.idle.1 ∙ (group.1 ∙ ap (λ (s : Option ℕ). group.0 ++ with_work s left) (sym none)),
      ap content_in t.is ∙ sym (group.2 ∙ ap (λ (k : List Tick). let reported : LogContent = record { before = logs.before; base = logs.base; ticks = k ++ t.group } in reported) kept),
      no_switch_one next none,
    )

takes_switch_reported : (logs : Logs) (queue : List Record) (next : Logs) (left : List Record) → TakesSwitch logs queue next left → StepReports logs queue next left
takes_switch_reported logs queue next left t = (
  [],
  ap (λ (s : Option ℕ). with_work s queue) t.idle.1 ∙ (t.in_front ∙ sym (ap (λ (l : Logs). with_work l.switch left) t.is)),
  ap content_in t.is,
  subst HasOneJob (sym t.is) t.idle.0,
)

goes_on_reported : (logs : Logs) (queue : List Record) (next : Logs) (left : List Record) → GoesOn logs queue next left → HasOneJob logs → StepReports logs queue next left
goes_on_reported logs queue next left (inl same) one = same_reported logs queue next left same.0 same.1 one
goes_on_reported logs queue next left (inr (inl t)) one = takes_group_reported logs queue next left t
goes_on_reported logs queue next left (inr (inr t)) one = takes_switch_reported logs queue next left t

ends_switch_reported : (logs : Logs) (queue : List Record) (next : Logs) (left : List Record) → EndsSwitch logs queue next left → HasOneJob logs → StepReports logs queue next left
ends_switch_reported logs queue next left e one =
    let none : next.switch ≡ None = ap (λ (l : Logs). l.switch) e.is in
    let nothing : logs.pending ≡ [] = subst (λ (s : Option ℕ). IfSome s (λ _. logs.pending ≡ [])) e.in_work one in
    let kept : logs.kept ++ logs.pending ≡ logs.kept = ap (λ (p : List Tick). logs.kept ++ p) nothing ∙ append-nil logs.kept in (
      records.Switch e.tick ∷ [],
      ap (λ (s : Option ℕ). with_work s queue) e.in_work ∙ ap (λ (l : List Record). records.Switch e.tick ∷ l) (same_work queue left None next.switch none e.queue_is),
      ap content_in e.is ∙ sym (ap (λ (k : List Tick). let reported : LogContent = record { before = OpenSegment logs.base k; base = e.tick; ticks = [] } in reported) kept),
      no_switch_one next none,
    )

acknowledges_reported : (logs : Logs) (queue : List Record) (next : Logs) (left : List Record) (tick : ℕ) → Acknowledges logs queue next left tick → StepReports logs queue next left
acknowledges_reported logs queue next left tick a =
    let same : next.switch ≡ logs.switch = ap (λ (l : Logs). l.switch) a.is in (
      [],
      same_work queue left logs.switch next.switch same a.queue_is,
      ap content_in a.is ∙ ap (λ (t : List Tick). let reported : LogContent = record { before = logs.before; base = logs.base; ticks = t } in reported) (append-nil (logs.kept ++ logs.pending)),
      no_switch_one next (same ∙ a.no_switch),
    )

pub step_reported : (logs : Logs) (queue : List Record) (given : LogAnswer) (next : Logs) (left : List Record) → LogsStep logs queue given next left → HasOneJob logs → StepReports logs queue next left
step_reported logs queue answer.Idle next left step one = same_reported logs queue next left step.2 step.3 one
step_reported logs queue answer.Working next left (inl goes) one = goes_on_reported logs queue next left goes one
step_reported logs queue answer.Working next left (inr ends) one = ends_switch_reported logs queue next left ends one
step_reported logs queue (answer.Acked tick) next left step one = acknowledges_reported logs queue next left tick step
step_reported logs queue answer.Down next left step one = goes_on_reported logs queue next left step one

-- ---- acknowledged ticks

-- a switch in front is at no smaller tick than the last one kept
abbrev SwitchFits : Logs → List Record → Type 0
SwitchFits logs queue = (number : ℕ) (left : List Record) → queue ≡ records.Switch number ∷ left → is_idle logs → logs.base + length logs.kept ≤ number

goes_on_acked : (acked : ℕ) (logs : Logs) (queue : List Record) (next : Logs) (left : List Record) → SwitchFits logs queue → GoesOn logs queue next left → HasAcked acked logs → HasAcked acked next
goes_on_acked acked logs queue next left fits (inl same) h = subst (HasAcked acked) (sym same.0) h
goes_on_acked acked logs queue next left fits (inr (inl t)) h = subst (HasAcked acked) (sym t.is) (record { kept = h.kept; switched = h.switched })
goes_on_acked acked logs queue next left fits (inr (inr t)) h = subst (HasAcked acked) (sym t.is) (record {
  kept = h.kept;
  switched = λ number is. (let same : t.tick ≡ number = cc in let most = fits t.tick left t.in_front t.idle in omega (arith, h.kept, most, same));
})

pub step_acked : (acked : ℕ) (logs : Logs) (queue : List Record) (given : LogAnswer) (next : Logs) (left : List Record)
    → SwitchFits logs queue → LogsStep logs queue given next left → HasAcked acked logs → HasAcked acked next
step_acked acked logs queue answer.Idle next left fits step h = subst (HasAcked acked) (sym step.2) h
step_acked acked logs queue answer.Working next left fits (inl goes) h = goes_on_acked acked logs queue next left fits goes h
step_acked acked logs queue answer.Working next left fits (inr e) h =
    subst (HasAcked acked) (sym e.is) (record { kept = (let most = h.switched e.tick e.in_work in omega (arith, most)); switched = λ number is. absurd (cc) })
step_acked acked logs queue (answer.Acked tick) next left fits a h = subst (HasAcked acked) (sym a.is) (record {
  kept = omega (arith, h.kept, length-append logs.kept logs.pending);
  switched = λ number is. absurd (let none = a.no_switch in cc);
})
step_acked acked logs queue answer.Down next left fits step h = goes_on_acked acked logs queue next left fits step h

pub now_acked : (tick : ℕ) (logs : Logs) (queue : List Record) (next : Logs) (left : List Record) → LogsStep logs queue (answer.Acked tick) next left → HasAcked tick next
now_acked tick logs queue next left a = subst (HasAcked tick) (sym a.is) (record {
  kept = omega (arith, a.tick_is);
  switched = λ number is. absurd (let none = a.no_switch in cc);
})

follows_fits : (phase : Phase) (base count next_base number : ℕ) (left : List Record) → IsTrue (is_of_start phase false)
    → switch_in phase next_base ≡ None → QueueFollowsIn phase base count next_base (records.Switch number ∷ left) → base + count ≤ number
follows_fits phases.Retiring base count next_base number left start none f = absurd (cc)
follows_fits phases.RetiringSync base count next_base number left start none f = absurd (cc)
follows_fits phases.Ready base count next_base number left start none f = f.0
follows_fits phases.BodySync base count next_base number left start none f = f.0
follows_fits phases.Gate base count next_base number left start none f = f.0
follows_fits phases.GateSync base count next_base number left start none f = f.0
follows_fits phases.Closing base count next_base number left start none f = absurd (cc)
follows_fits phases.ClosingSync base count next_base number left start none f = absurd (cc)
follows_fits phases.Header base count next_base number left start none f = absurd (cc)
follows_fits phases.HeaderSync base count next_base number left start none f = absurd (cc)
follows_fits phases.Opening base count next_base number left start none f = absurd (cc)
follows_fits phases.OpeningSync base count next_base number left start none f = absurd (cc)

pub switch_fits : (keeper : Progress) (a b : List ℕ) (leaves_a leaves_b : List ℕ → Type 0) (logs : Logs) (queue : List Record)
    → StandsAfterStart keeper a b leaves_a leaves_b logs → QueueFollows keeper queue → SwitchFits logs queue
switch_fits keeper a b leaves_a leaves_b logs queue s follows number left front idle =
    let most = follows_fits keeper.phase keeper.base keeper.count keeper.next_base number left (subst (λ (start : Bool). IsTrue (is_of_start keeper.phase start)) s.over s.holds.in_order.of_start)
    (sym (ap (λ (l : Logs). l.switch) s.is) ∙ idle.1) (subst (QueueFollows keeper) front follows) in
    omega (arith, most, ap (λ (l : Logs). l.base) s.is, ap (λ (l : Logs). length l.kept) s.is, s.holds.fits.count, length-append (joined s.written.groups) s.written.pending)

-- ---- covered ticks

-- the acknowledged ticks are written, or covered
abbrev Acknowledged : List ℕ → ℕ → Logs → Type 0
Acknowledged covers acked logs = HasAcked acked logs ⊎ IsCovered covers acked

-- the records that a cover takes were in front, so they may be left out
cover_takes : (covers : List ℕ) (tick : ℕ) (all given lost : List Record) (logs : Logs) (queue left : List Record)
    (taken : List Record) → Covers logs queue tick taken left → LeavesOut covers all (given ++ (queue ++ lost)) → Contains covers tick
    → LeavesOut covers all (given ++ (left ++ lost))
cover_takes covers tick all given lost logs queue left taken c order at =
    let front : queue ≡ taken ++ records.Switch tick ∷ c.behind = c.in_front ∙ ap (λ (l : List Record). taken ++ l) c.next in
    subst (λ (l : List Record). LeavesOut covers all (given ++ (l ++ lost))) (sym c.next)
    (cover_leaves covers tick all given taken c.behind lost at (subst (λ (l : List Record). LeavesOut covers all (given ++ (l ++ lost))) front order))

-- the same if a switch may be in work: the records were after none
cover_works : (covers : List ℕ) (tick : ℕ) (all given lost : List Record) (logs : Logs) (queue left : List Record) (taken : List Record) → Covers logs queue tick taken left
    → LeavesOut covers all (given ++ (with_work logs.switch queue ++ lost)) → Contains covers tick → LeavesOut covers all (given ++ (with_work logs.switch left ++ lost))
cover_works covers tick all given lost logs queue left taken c order at =
    let none = c.idle.1 in
    subst (λ (s : Option ℕ). LeavesOut covers all (given ++ (with_work s left ++ lost))) (sym none)
    (cover_takes covers tick all given lost logs queue left taken c (subst (λ (s : Option ℕ). LeavesOut covers all (given ++ (with_work s queue ++ lost))) none order) at)

cover_order : (covers : List ℕ) (tick : ℕ) (all given lost : List Record) (logs : Logs) (queue left : List Record) (answered : LogAnswer) → CoverStep logs queue tick answered left
    → LeavesOut covers all (given ++ (with_work logs.switch queue ++ lost)) → Contains covers tick → LeavesOut covers all (given ++ (with_work logs.switch left ++ lost))
cover_order covers tick all given lost logs queue left answer.Idle same order at = subst (λ (l : List Record). LeavesOut covers all (given ++ (with_work logs.switch l ++ lost))) (sym same) order
cover_order covers tick all given lost logs queue left answer.Working c order at = cover_works covers tick all given lost logs queue left c.0 c.1 order at
cover_order covers tick all given lost logs queue left (answer.Acked number) c order at = cover_works covers tick all given lost logs queue left c.0 c.1 order at
cover_order covers tick all given lost logs queue left answer.Down same order at = subst (λ (l : List Record). LeavesOut covers all (given ++ (with_work logs.switch l ++ lost))) (sym same) order

-- records after the queue are after the switch in work too
work_append : (switch : Option ℕ) (queue more : List Record) → with_work switch (queue ++ more) ≡ with_work switch queue ++ more
work_append None queue more = refl
work_append (Some tick) queue more = refl

step_order : (covers : List ℕ) (all given taken queue left lost : List Record) → queue ≡ taken ++ left
    → LeavesOut covers all (given ++ (queue ++ lost)) → LeavesOut covers all ((given ++ taken) ++ (left ++ lost))
step_order covers all given taken queue left lost front order =
    let same : given ++ (queue ++ lost) ≡ (given ++ taken) ++ (left ++ lost) =
    ap (λ (l : List Record). given ++ l) (ap (λ (l : List Record). l ++ lost) front ∙ append_assoc taken left lost) ∙ sym (append_assoc given taken (left ++ lost)) in
    subst (LeavesOut covers all) same order

-- ---- the written records

module _ {D : Type 0} (disk : Ghosts D) where
  -- the effect of an advance by this tick on the log that keeper and files represent
  abbrev pub LogAdvances : (tick : ℕ) → (log after : Log D) → (ring left : List Record) → LogAnswer → Type 0
  LogAdvances tick log after ring left given = (logs : Logs) → LogStands disk log logs → (next : Logs) × LogStands disk after next × Advances tick logs ring given next left

  stepped_acked : (log : Log D) (logs next : Logs) (ring left : List Record) (given : LogAnswer) (covers : List ℕ) (acked acked' : ℕ) → QueueFollows log.keeper ring → LogStands disk log logs
      → (acked' ≡ acked) ⊎ (given ≡ answer.Acked acked') → LogsStep logs ring given next left → Acknowledged covers acked logs → Acknowledged covers acked' next
  stepped_acked log logs next ring left given covers acked acked' follows stands (inr now) step was =
      inl (now_acked acked' logs ring next left (subst (λ (g : LogAnswer). LogsStep logs ring g next left) now step))
  stepped_acked log logs next ring left given covers acked acked' follows stands (inl same) step (inl has) =
      let fits = switch_fits log.keeper (disk.content log.a) (disk.content log.b) (disk.may_leave log.a) (disk.may_leave log.b) logs ring stands.0 follows in
      inl (subst (λ k. HasAcked k next) (sym same) (step_acked acked logs ring given next left fits step has))
  stepped_acked log logs next ring left given covers acked acked' follows stands (inl same) step (inr is) = inr (subst (IsCovered covers) (sym same) is)

  covered_acked : (tick : ℕ) (logs next : Logs) (ring left : List Record) (given : LogAnswer) (covers : List ℕ) (acked acked' : ℕ) → Contains covers tick → next ≡ logs
      → (acked' ≡ acked) ⊎ (given ≡ answer.Acked acked') → CoverStep logs ring tick given left → Acknowledged covers acked logs → Acknowledged covers acked' next
  covered_acked tick logs next ring left given covers acked acked' at stays (inl same) step was =
      subst (λ (l : Logs). Acknowledged covers acked' l) (sym stays) (subst (λ k. Acknowledged covers k logs) (sym same) was)
  covered_acked tick logs next ring left given covers acked acked' at stays (inr now) step was =
      let c = subst (λ (g : LogAnswer). CoverStep logs ring tick g left) now step in
      inr (tick, at, omega (arith, c.3))

  -- the written records with other loaded ticks, and another acknowledged tick
  abbrev written_as : {log : Log D} {ring : List Record} {covers reported : List ℕ} {acked tick : ℕ} {down : Bool}
      {first : LogContent} {all : List Record} (w : Writes disk log ring covers acked down first all)
      → LeavesOut reported all (w.given ++ (with_work w.logs.switch ring ++ w.lost)) → Acknowledged reported tick w.logs → Writes disk log ring reported tick down first all
  written_as w order acknowledged = record {
    logs = w.logs;
    stands = w.stands;
    given = w.given;
    lost = w.lost;
    reported = w.reported;
    order = order;
    one_job = w.one_job;
    none_lost = w.none_lost;
    acknowledged = acknowledged;
  }

  -- more ticks of open images are loaded
  abbrev written_later : (log : Log D) (ring : List Record) (covers later : List ℕ) (acked : ℕ) (down : Bool) (first : LogContent)
      (all : List Record) → Writes disk log ring covers acked down first all → Writes disk log ring (covers ++ later) acked down first all
  written_later log ring covers later acked down first all w = written_as w (leaves_later covers later all (w.given ++ (with_work w.logs.switch ring ++ w.lost)) w.order)
      (elim w.acknowledged [ inl has ↦ inl has | inr is ↦ inr (covered_later covers later acked is) ])

  advanced : (log after : Log D) (ring left : List Record) (tick : ℕ) (covers : List ℕ) (given : LogAnswer) (acked acked' : ℕ)
      (down : Bool) (first : LogContent) (all : List Record) → QueueFollows log.keeper ring → Contains covers tick
      → (acked' ≡ acked) ⊎ (given ≡ answer.Acked acked') → (w : Writes disk log ring covers acked down first all)
      → (next : Logs) → LogStands disk after next → Advances tick w.logs ring given next left
      → Writes disk after left covers acked' down first all
  advanced log after ring left tick covers given acked acked' down first all follows at which w next stands (inl step) =
      let taken = step_reported w.logs ring given next left step w.one_job in
      record {
        logs = next;
        stands = stands;
        given = w.given ++ taken.0;
        lost = w.lost;
        reported = taken.2 ∙ (ap (λ (t : LogContent). after_records t taken.0) w.reported ∙ sym (after_append first w.given taken.0));
        order = step_order covers all w.given taken.0 (with_work w.logs.switch ring) (with_work next.switch left) w.lost taken.1 w.order;
        one_job = taken.3;
        none_lost = w.none_lost;
        acknowledged = stepped_acked log w.logs next ring left given covers acked acked' follows w.stands which step w.acknowledged;
      }
  advanced log after ring left tick covers given acked acked' down first all follows at which w next stands (inr cover) = record {
    logs = next;
    stands = stands;
    given = w.given;
    lost = w.lost;
    reported = ap content_in cover.0 ∙ w.reported;
    order =
        subst (λ (l : Logs). LeavesOut covers all (w.given ++ (with_work l.switch left ++ w.lost))) (sym cover.0)
        (cover_order covers tick all w.given w.lost w.logs ring left given cover.1 w.order at);
    one_job = subst HasOneJob (sym cover.0) w.one_job;
    none_lost = w.none_lost;
    acknowledged = covered_acked tick w.logs next ring left given covers acked acked' at cover.0 which cover.1 w.acknowledged;
  }

  pub writes_on : (log after : Log D) (ring left : List Record) (tick : ℕ) (covers : List ℕ) (given : LogAnswer)
      (acked acked' : ℕ) (down : Bool) (first : LogContent) (all : List Record) → QueueFollows log.keeper ring
      → (acked' ≡ acked) ⊎ (given ≡ answer.Acked acked') → LogAdvances tick log after ring left given
      → Writes disk log ring covers acked down first all → Writes disk after left (covers ++ tick ∷ []) acked' down first all
  writes_on log after ring left tick covers given acked acked' down first all follows which advances w =
      let reported = written_later log ring covers (tick ∷ []) acked down first all w in
      let on = advances w.logs w.stands in
      advanced log after ring left tick (covers ++ tick ∷ []) given acked acked' down first all follows (Contains-push covers tick) which reported on.0 on.1 on.2

  -- if the ticks up to one are acknowledged, so are those up to an earlier one
  pub writes_below : (log : Log D) (ring : List Record) (covers : List ℕ) (acked fewer : ℕ) (down : Bool) (first : LogContent)
      (all : List Record) → fewer ≤ acked → Writes disk log ring covers acked down first all → Writes disk log ring covers fewer down first all
  writes_below log ring covers acked fewer down first all few w = written_as w w.order (elim w.acknowledged [
    | inl logged ↦ inl (record { kept = omega (arith, few, logged.kept); switched = λ number is. let later = logged.switched number is in omega (arith, few, later) })
    | inr covered ↦ inr (covered.0, covered.1, omega (arith, few, covered.2))
  ])

  -- one more record is queued
  pub writes_more : (log : Log D) (ring more : List Record) (covers : List ℕ) (acked : ℕ) (down : Bool) (first : LogContent)
      (all : List Record) → down ≡ false → Writes disk log ring covers acked down first all → Writes disk log (ring ++ more) covers acked down first (all ++ more)
  writes_more log ring more covers acked down first all up w = record {
    logs = w.logs;
    stands = w.stands;
    given = w.given;
    lost = [];
    reported = w.reported;
    order = (let work : List Record = with_work w.logs.switch ring in
        let behind : work ++ more ≡ with_work w.logs.switch (ring ++ more) = sym (work_append w.logs.switch ring more) in
        let plain : (w.given ++ (work ++ w.lost)) ++ more ≡ w.given ++ (with_work w.logs.switch (ring ++ more) ++ []) =
        ap (λ (l : List Record). (w.given ++ l) ++ more) (ap (λ (l : List Record). work ++ l) (w.none_lost up) ∙ append-nil work)
        ∙ (append_assoc w.given work more ∙ ap (λ (l : List Record). w.given ++ l) (behind ∙ sym (append-nil (with_work w.logs.switch (ring ++ more))))) in
        subst (LeavesOut covers (all ++ more)) plain (leaves_more covers all (w.given ++ (work ++ w.lost)) more w.order));
    one_job = w.one_job;
    none_lost = λ _. refl;
    acknowledged = w.acknowledged;
  }

  -- one more record is lost
  pub writes_lost : (log : Log D) (ring more : List Record) (covers : List ℕ) (acked : ℕ) (down : Bool) (first : LogContent)
      (all : List Record) → down ≡ true → Writes disk log ring covers acked down first all → Writes disk log ring covers acked down first (all ++ more)
  writes_lost log ring more covers acked down first all is_down w = record {
    logs = w.logs;
    stands = w.stands;
    given = w.given;
    lost = w.lost ++ more;
    reported = w.reported;
    order = (let work : List Record = with_work w.logs.switch ring in
        let plain : (w.given ++ (work ++ w.lost)) ++ more ≡ w.given ++ (work ++ (w.lost ++ more)) =
        append_assoc w.given (work ++ w.lost) more ∙ ap (λ (l : List Record). w.given ++ l) (append_assoc work w.lost more) in
        subst (LeavesOut covers (all ++ more)) plain (leaves_more covers all (w.given ++ (work ++ w.lost)) more w.order));
    one_job = w.one_job;
    none_lost = λ up. absurd (let e : true ≡ false = sym is_down ∙ up in cc);
    acknowledged = w.acknowledged;
  }
