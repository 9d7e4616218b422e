-- The log writer's invariant still holds after each of its acts.
use Rattle.std.proofs.Common.{arith, ◌≡◌, ◌⊎◌, inl, ℕ, ◌+◌, ◌≤◌, Bool, true, false, IsTrue, ◌||◌, List, [], ◌∷◌, ◌++◌, length}
use Rattle.std.proofs.Common.{length-append, append-nil, refl, sym, ap, ◌∙◌, subst, Option, None, IfSome}
use Rattle.std.proofs.lemmas.List.{append_assoc}
use Rattle.std.proofs.lemmas.Grind.{flat_map-append}
use Rattle.std.proofs.lemmas.List.Folds.{list_any-append}
use Rattle.world_ticks.specs.declared.tick.TheConstants.{TICK_MAX}
use Rattle.circular_buffer.specs.Buffer.{Buffer}
use Rattle.action_log.specs.declared.record.Record.{Record}
use Rattle.action_log.specs.declared.record.Record.TheVariants as records
use Rattle.action_log.specs.declared.answer.LogAnswer.{LogAnswer}
use Rattle.action_log.specs.declared.answer.LogAnswer.TheVariants as answer
use Rattle.action_log.specs.declared.progress.Progress.{Progress}
use Rattle.action_log.specs.Queue.{QueueEnd}
use Rattle.action_log.specs.Progress.{QueueFollows, QueueFollowsIn, end_of, end_in, work_of, switch_in}
use Rattle.action_log.specs.Logs.{Logs}
use Rattle.action_log.specs.Files.{FitsFiles}
use Rattle.recovery.specs.Events.{with_work}
use Rattle.shared_capture.specs.SignalWord.{SignalState, with_number}
use Rattle.workers.specs.declared.item.Item.{Item}
use Rattle.workers.specs.declared.item.Item.TheVariants.{Start, Tick, Switch, Stop}
use Rattle.workers.specs.Posts.{Unposted}
use Rattle.workers.specs.declared.log_writer.Log.{Log}
use Rattle.workers.specs.Items.{Goes, end_after, items_end, record_of, records_of}
use Rattle.workers.specs.Channel.{Popping}
use Rattle.workers.specs.Answering.{Answering, AreNext, answers_of, all_answers_of}
use Rattle.workers.specs.Covering.{LeavesOut}
use Rattle.disk_model.specs.Disk.{OneCalledAtMostOnce}
use Rattle.disk_model.specs.FourFiles.{CallsFill}
use Rattle.disk_model.proofs.FilledLemmas.{one_more_fills}
use Rattle.workers.specs.Logging.{Logging, IsLogging, Writes, content_in, is_stop, has_stop, is_over, Took, HasAcked, LogStands, IsReady, writer_at}
use Rattle.workers.proofs.Numbers.{end_more}
use Rattle.disk_model.specs.declared.disk.Disk.{Ghosts}
use Rattle.workers.proofs.Reporting.{LogAdvances, writes_on, writes_more, writes_lost}

pub records_more : (items : List Item) (x : Item) → records_of (items ++ x ∷ []) ≡ records_of items ++ record_of x
records_more items x = flat_map-append record_of items (x ∷ []) ∙ ap (λ (l : List Record). records_of items ++ l) (append-nil (record_of x))

numbers_after : (end : QueueEnd) (item : Item) (number : ℕ) (waiting : List Unposted) → Goes end item
    → number + length waiting ≡ end.base + end.count → number + length (waiting ++ answers_of item) ≡ (end_after end item).base + (end_after end item).count
numbers_after end (Start n) number waiting goes is = absurd goes
numbers_after end (Tick ended) number waiting goes is = omega (arith, length-append waiting (ended.answer ∷ []), is)
numbers_after end (Switch n) number waiting goes is = omega (arith, ap length (append-nil waiting), is, goes.0)
numbers_after end Stop number waiting goes is = omega (arith, ap length (append-nil waiting), is)

most_after : (end : QueueEnd) (item : Item) → Goes end item → end.base + end.count ≤ TICK_MAX → (end_after end item).base + (end_after end item).count ≤ TICK_MAX
most_after end (Start n) goes most = absurd goes
most_after end (Tick ended) goes most = omega (arith, goes.1)
most_after end (Switch n) goes most = omega (arith, goes.0, most)
most_after end Stop goes most = most

-- the answer of an item is the next one
next_of : (end : QueueEnd) (item : Item) (number : ℕ) (waiting : List Unposted) → Goes end item → waiting ≡ [] → number + length waiting ≡ end.base + end.count → AreNext number (answers_of item)
next_of end (Start n) number waiting goes none is = tt
next_of end (Tick ended) number waiting goes none is = (omega (arith, goes.2, is, ap length none), tt)
next_of end (Switch n) number waiting goes none is = tt
next_of end Stop number waiting goes none is = tt

module _ {D : Type 0} (disk : Ghosts D) (w : Logging D) (is : IsLogging disk w) where
  -- an item was popped
  module _ (item : Item) (from : Popping) (popped : from.items ≡ w.from.items ++ item ∷ []) (goes : Goes (items_end w.from.items) item) where
    popped_end : items_end from.items ≡ end_after (items_end w.from.items) item
    popped_end = ap items_end popped ∙ end_more w.from.items item

    popped_numbers : w.answers.answered + length (w.answers.waiting ++ answers_of item) ≡ (items_end from.items).base + (items_end from.items).count
    popped_numbers = numbers_after (items_end w.from.items) item w.answers.answered w.answers.waiting goes is.numbers ∙ ap (λ (e : QueueEnd). e.base + e.count) (sym popped_end)

    popped_most : (items_end from.items).base + (items_end from.items).count ≤ TICK_MAX
    popped_most = subst (λ (e : QueueEnd). e.base + e.count ≤ TICK_MAX) (sym popped_end) (most_after (items_end w.from.items) item goes is.most)

  pub kept : (item : Item) (from : Popping) (ring : Buffer Record) (answers : Answering) (over : Bool) → w.down ≡ false → from.items ≡ w.from.items ++ item ∷ [] → Goes (items_end w.from.items) item
      → QueueFollows w.log.keeper ring.items → end_of w.log.keeper ring.items ≡ end_after (end_of w.log.keeper w.ring.items) item → ring ≡ record w.ring { items = w.ring.items ++ record_of item }
      → answers ≡ record w.answers { waiting = w.answers.waiting ++ answers_of item } → IsLogging disk (record w { from = from; ring = ring; answers = answers; over = over })
  kept item from ring answers over up popped goes follows end ring_is answers_is = record {
    started = is.started;
    fits = is.fits;
    follows = follows;
    end = λ u. end ∙ (ap (λ (e : QueueEnd). end_after e item) (is.end up) ∙ sym (popped_end item from popped goes));
    ring = ap (λ (b : Buffer Record). b.capacity) ring_is ∙ is.ring;
    room = ap (λ (a : Answering). a.room) answers_is ∙ is.room;
    numbers = ap (λ (a : Answering). a.answered + length a.waiting) answers_is ∙ popped_numbers item from popped goes;
    most = popped_most item from popped goes;
    posted = λ u. ap (λ (a : Answering). a.posted) answers_is ∙ (is.posted u ∙ sym (ap (λ (a : Answering). a.answered) answers_is));
    durable = subst (λ (a : Answering). a.posted ≤ w.acked) (sym answers_is) is.durable;
    reports = is.reports;
    writes = λ h logs stands.
        (subst (λ (r : List Record). Writes disk w.log ring.items w.covers.numbers w.acked w.down (content_in logs) r) (sym (ap records_of popped ∙ records_more w.from.items item))
        (subst (λ (b : Buffer Record). Writes disk w.log b.items w.covers.numbers w.acked w.down (content_in logs) (records_of w.from.items ++ record_of item)) (sym ring_is)
        (writes_more disk w.log w.ring.items (record_of item) w.covers.numbers w.acked w.down (content_in logs) (records_of w.from.items) up (is.writes h logs stands))));
    filled = is.filled;
  }

  -- the content of the files after a step with this answer
  pub reported_on : (covers : SignalState) (tick : ℕ) (log : Log D) (ring : Buffer Record) (given : LogAnswer) (acked : ℕ) → (acked ≡ w.acked) ⊎ (given ≡ answer.Acked acked)
      → covers ≡ with_number w.covers tick → (IsTrue disk.honest → LogAdvances disk tick w.log log w.ring.items ring.items given)
      → IsTrue disk.honest → (logs : Logs) → LogStands disk w.opening logs → Writes disk log ring.items covers.numbers acked w.down (content_in logs) (records_of w.from.items)
  reported_on covers tick log ring given acked which reported advances = λ h logs stands.
      subst (λ (c : SignalState). Writes disk log ring.items c.numbers acked w.down (content_in logs) (records_of w.from.items)) (sym reported)
      (writes_on disk w.log log w.ring.items ring.items tick w.covers.numbers given w.acked acked w.down (content_in logs)
      (records_of w.from.items) is.follows which (advances h) (is.writes h logs stands))

  pub advanced : (covers : SignalState) (tick : ℕ) (log : Log D) (ring : Buffer Record) (answers : Answering) (given : LogAnswer)
      (acked : ℕ) → log.keeper.starting ≡ false → (IsTrue disk.honest → FitsFiles log.keeper (disk.content log.a) (disk.content log.b))
      → QueueFollows log.keeper ring.items → end_of log.keeper ring.items ≡ end_of w.log.keeper w.ring.items → ring.capacity ≡ w.ring.capacity
      → answers.room ≡ w.answers.room → answers.answered + length answers.waiting ≡ w.answers.answered + length w.answers.waiting
      → (w.answers.posted ≡ w.answers.answered → answers.posted ≡ answers.answered) → answers.posted ≤ acked
      → (acked ≡ w.acked) ⊎ (given ≡ answer.Acked acked)
      → covers ≡ with_number w.covers tick → (IsTrue disk.honest → LogAdvances disk tick w.log log w.ring.items ring.items given)
      → CallsFill disk → OneCalledAtMostOnce disk.called w.log.a log.a w.log.b log.b
      → IsLogging disk (record w { covers = covers; log = log; ring = ring; answers = answers; acked = acked })
  advanced covers tick log ring answers given acked started fits follows end capacity room count posted durable which reported advances fills calls = record {
    started = started;
    fits = fits;
    follows = follows;
    end = λ up. end ∙ is.end up;
    ring = capacity ∙ is.ring;
    room = room ∙ is.room;
    numbers = count ∙ is.numbers;
    most = is.most;
    posted = λ up. posted (is.posted up);
    durable = durable;
    reports = is.reports;
    writes = reported_on covers tick log ring given acked which reported advances;
    filled = λ sure. one_more_fills disk fills sure w.opening.a w.log.a log.a w.opening.b w.log.b log.b (is.filled sure) calls;
  }

  -- an item is popped and its answer refused, if no other answer waits
  module _ (seen : Logging D) (same : w ≡ seen) (none : seen.answers.waiting ≡ []) where
    none_waits : w.answers.waiting ≡ []
    none_waits = ap (λ (x : Logging D). x.answers.waiting) same ∙ none

    pub next_popped : (item : Item) → Goes (items_end w.from.items) item → AreNext w.answers.answered (answers_of item)
    next_popped item goes = next_of (items_end w.from.items) item w.answers.answered w.answers.waiting goes none_waits is.numbers

    pub lost : (item : Item) (from : Popping) (answers : Answering) (over : Bool) → seen.down ≡ true → from.items ≡ w.from.items ++ item ∷ [] → Goes (items_end w.from.items) item
        → answers ≡ record w.answers { answered = w.answers.answered + length (answers_of item) } → IsLogging disk (record w { from = from; answers = answers; over = over })
    lost item from answers over seen_down popped goes answers_is =
        let down : w.down ≡ true = ap (λ (x : Logging D). x.down) same ∙ seen_down in record {
          started = is.started;
          fits = is.fits;
          follows = is.follows;
          end = λ up. absurd (let e : true ≡ false = sym down ∙ up in cc);
          ring = is.ring;
          room = ap (λ (a : Answering). a.room) answers_is ∙ is.room;
          numbers =
              omega (
                arith,
                ap (λ (a : Answering). length a.waiting) answers_is,
                ap (λ (a : Answering). a.answered) answers_is,
                popped_numbers item from popped goes,
                length-append w.answers.waiting (answers_of item),
                ap length none_waits,
              );
          most = popped_most item from popped goes;
          posted = λ up. absurd (let e : true ≡ false = sym down ∙ up in cc);
          durable = subst (λ (a : Answering). a.posted ≤ w.acked) (sym answers_is) is.durable;
          reports = is.reports;
          writes = λ h logs stands.
              (subst (λ (r : List Record). Writes disk w.log w.ring.items w.covers.numbers w.acked w.down (content_in logs) r) (sym (ap records_of popped ∙ records_more w.from.items item))
              (writes_lost disk w.log w.ring.items (record_of item) w.covers.numbers w.acked w.down (content_in logs) (records_of w.from.items) down (is.writes h logs stands)));
          filled = is.filled;
        }

-- ---- the items that a turn pops

pub no_more_answers : (items : List Item) → length (all_answers_of items) ≤ length (records_of items)
no_more_answers [] = omega arith
no_more_answers (Start n ∷ items) = no_more_answers items
no_more_answers (Tick ended ∷ items) = (let rest = no_more_answers items in omega (arith, rest))
no_more_answers (Switch n ∷ items) = (let rest = no_more_answers items in omega (arith, rest))
no_more_answers (Stop ∷ items) = no_more_answers items

pub end_append : (xs ys : List Item) → has_stop xs ≡ false → has_stop (xs ++ ys) ≡ has_stop ys
end_append xs ys none = list_any-append is_stop xs ys ∙ ap (λ (b : Bool). b || has_stop ys) none

pub over_append : (xs ys : List Item) → is_over xs ≡ false → is_over (xs ++ ys) ≡ has_stop ys
over_append [] ys none = absurd (cc)
over_append (x ∷ xs) ys none = end_append (x ∷ xs) ys none

module _ {D : Type 0} where
  pub took_then : (u v w : Logging D) (xs ys : List Item) → Took u v xs → Took v w ys → Took u w (xs ++ ys)
  took_then u v w xs ys s t = record {
    popped = t.popped ∙ (ap (λ (l : List Item). l ++ ys) s.popped ∙ append_assoc u.from.items xs ys);
    end = t.end ∙ s.end;
    ring = t.ring ∙ (ap (λ (b : Buffer Record). let c : Buffer Record = record b { items = b.items ++ records_of ys } in c) s.ring
        ∙ ap (λ (l : List Record). let b : Buffer Record = record u.ring { items = l } in b)
        (append_assoc u.ring.items (records_of xs) (records_of ys) ∙ ap (λ (l : List Record). u.ring.items ++ l) (sym (flat_map-append record_of xs ys))));
    answers = t.answers ∙ (ap (λ (a : Answering). let b : Answering = record a { waiting = a.waiting ++ all_answers_of ys } in b) s.answers
        ∙ ap (λ (l : List Unposted). let a : Answering = record u.answers { waiting = l } in a)
        (append_assoc u.answers.waiting (all_answers_of xs) (all_answers_of ys) ∙ ap (λ (l : List Unposted). u.answers.waiting ++ l) (sym (flat_map-append answers_of xs ys))));
    same = t.same ∙ ap (λ (x : Logging D). let y : Logging D = record x { from = w.from; ring = w.ring; answers = w.answers; over = w.over } in y) s.same;
  }

  pub took_few : (u w : Logging D) (more : List Item) → Took u w more → length u.answers.waiting ≤ length u.ring.items → length w.answers.waiting ≤ length w.ring.items
  took_few u w more t few =
      let one = no_more_answers more in
      omega (
        arith,
        ap (λ (a : Answering). length a.waiting) t.answers,
        ap (λ (b : Buffer Record). length b.items) t.ring,
        length-append u.answers.waiting (all_answers_of more),
        length-append u.ring.items (records_of more),
        one,
        few,
      )

-- if there is no work, nothing is queued
pub no_work : (keeper : Progress) (queue : List Record) → work_of keeper queue ≡ 0 → queue ≡ []
no_work keeper [] none = refl
no_work keeper (records.Tick t ∷ queue) none = absurd (omega (arith, none))
no_work keeper (records.Switch n ∷ queue) none = absurd (omega (arith, none))

-- ---- the beginning

module _ {D : Type 0} (disk : Ghosts D) where
  ready_switch : (log : Log D) (tick : ℕ) (logs : Logs) → IsReady log.keeper tick → LogStands disk log logs → logs.switch ≡ None
  ready_switch log tick logs ready stands = ap (λ (l : Logs). l.switch) stands.0.is ∙ ap (λ p. switch_in p log.keeper.next_base) ready.phase

  has_first : (log : Log D) (tick : ℕ) (logs : Logs) → IsReady log.keeper tick → LogStands disk log logs → HasAcked tick logs
  has_first log tick logs ready stands = record {
    kept = omega (arith, ap (λ (l : Logs). l.base) stands.0.is, ready.base);
    switched = λ number is. absurd (let none = ready_switch log tick logs ready stands in cc);
  }

  begins : (from : Popping) (covers reported_down : SignalState) (log : Log D) (tick : ℕ) → from.items ≡ Start tick ∷ []
      → reported_down.numbers ≡ [] → tick ≤ TICK_MAX → IsReady log.keeper tick → (IsTrue disk.honest → FitsFiles log.keeper (disk.content log.a) (disk.content log.b))
      → IsLogging disk (writer_at from covers reported_down log tick)
  begins from covers reported_down log tick opened unreported most ready fits =
      let k = log.keeper in
      let last : items_end from.items ≡ record { base = tick; count = 0 } = ap items_end opened in record {
        started = ready.started;
        fits = fits;
        follows = subst (λ p. QueueFollowsIn p k.base k.count k.next_base []) (sym ready.phase) tt;
        end =
            λ up. ap (λ p. end_in p k.base k.count k.next_base []) ready.phase
            ∙ (ap (λ b. let e : QueueEnd = record { base = b; count = k.count } in e) ready.base ∙ (ap (λ n. let e : QueueEnd = record { base = tick; count = n } in e) ready.count ∙ sym last));
        ring = refl;
        room = refl;
        numbers = sym (ap (λ (e : QueueEnd). e.base + e.count) last);
        most = subst (λ (e : QueueEnd). e.base + e.count ≤ TICK_MAX) (sym last) (omega (arith, most));
        posted = λ up. refl;
        durable = omega arith;
        reports = (λ up. unreported, λ no. absurd (cc));
        writes = λ h logs stands. let none = ready_switch log tick logs ready stands in record {
          logs = logs;
          stands = stands;
          given = [];
          lost = [];
          reported = refl;
          order = subst (λ (all : List Record). LeavesOut covers.numbers all (with_work logs.switch [] ++ [])) (sym (ap records_of opened)) (ap (λ (s : Option ℕ). with_work s [] ++ []) none);
          one_job = subst (λ (s : Option ℕ). IfSome s (λ _. logs.pending ≡ [])) (sym none) tt;
          none_lost = λ up. refl;
          acknowledged = inl (has_first log tick logs ready stands);
        };
        filled = λ sure. (λ was. was, λ was. was);
      }

  pub begins_of : (from : Popping) (covers reported_down : SignalState) (log opening : Log D) (ring : Buffer Record)
      (answers : Answering) (tick : ℕ) → from.items ≡ Start tick ∷ [] → reported_down.numbers ≡ [] → tick ≤ TICK_MAX
      → IsReady log.keeper tick → (IsTrue disk.honest → FitsFiles log.keeper (disk.content log.a) (disk.content log.b))
      → ring ≡ (writer_at from covers reported_down log tick).ring
      → answers ≡ (writer_at from covers reported_down log tick).answers → opening ≡ log
      → IsLogging disk (record (writer_at from covers reported_down log tick) { ring = ring; answers = answers; opening = opening })
  begins_of from covers reported_down log opening ring answers tick opened unreported most ready fits ring_is answers_is opening_is =
      subst (λ (x : Buffer Record × Answering × Log D). IsLogging disk (record (writer_at from covers reported_down log tick) { ring = x.0; answers = x.1; opening = x.2 }))
      (λ i. (sym ring_is i, sym answers_is i, sym opening_is i)) (begins from covers reported_down log tick opened unreported most ready fits)
