-- Each step of the log keeper keeps the facts that hold between any two events.
use Rattle.std.proofs.Common.{rules}
use Rattle.std.proofs.Common.{◌≡◌, ℕ, ◌+◌, ◌≤◌, max, inl, inr, List, [], ◌∷◌, ◌++◌, length, drop, Some, refl, sym, ap, subst, ◌∙◌, arith}
use Rattle.std.proofs.lemmas.List.{append-nil, length-append, length-drop, drop_at, drop-drop}
use Rattle.world_actions.specs.declared.action.Action.{Action}
use Rattle.image_files.specs.Images.{Images}
use Rattle.action_log.specs.Logs.{Logs}
use Rattle.recovery.specs.Follow.{FollowsFrom, Reaches, round_tick, base_in, coming, RiseFrom, BeginFrom}
use Rattle.recovery.specs.Events.{ticks_in, switches_in, with_work, AreNumbered, HasUpTo, IsKept, acknowledged_after, ReceiptIs}
use Rattle.action_log.specs.Logs.{switched_to}
use Rattle.action_log.specs.LogSteps.{is_idle, GoesOn, EndsSwitch, Acknowledges, LogsStep}
use Rattle.action_log.specs.Cover.{Covers, CoverStep}
use Rattle.action_log.specs.declared.answer.LogAnswer.{LogAnswer}
use Rattle.action_log.specs.declared.answer.LogAnswer.TheVariants as answer
use Rattle.action_log.specs.declared.record.Record.{Record}
use Rattle.action_log.specs.declared.record.Record.TheVariants as records
use Rattle.action_log.specs.Queue.{StandBefore}
use Rattle.recovery.proofs.Replay.{follows_front}
use Rattle.recovery.proofs.Law.{IsSwitchOf, Reached, reached_more, reached_fewer, begins}
use Rattle.recovery.proofs.Events.{with_group, with_group_kept, with_switch, reached_max, first_switch, group_at, group_numbered}
use Rattle.recovery.proofs.Events.{group_switches, group_ticks, group_follows, bases_done, bases_covered, below_rising}
use Rattle.recovery.proofs.Events.{switches_behind, ticks_behind, numbered_behind, has_upto}

idle_count : (logs : Logs) → logs.pending ≡ [] → logs.base + length (logs.kept ++ logs.pending) ≡ logs.base + length logs.kept
idle_count logs none = ap (λ l. logs.base + length (logs.kept ++ l)) none ∙ ap (λ l. logs.base + length l) (append-nil logs.kept)

-- fewer are acknowledged
pub keeps_fewer : (first : List ℕ) (ticks : List (List Action)) (acknowledged fewer : ℕ) (images : Images) (logs : Logs)
    (queue : List Record) → fewer ≤ acknowledged → IsKept first ticks acknowledged images logs queue → IsKept first ticks fewer images logs queue
keeps_fewer first ticks acknowledged fewer images logs queue le k =
    let f = k.logs_follow in
    record {
      worlds = k.worlds;
      logs_follow = record { taken = f.taken; acknowledges = reached_fewer acknowledged fewer (logs.base + length logs.kept) images.tick le f.acknowledges; before = f.before; switch = f.switch };
      follow_marks = k.follow_marks;
      queued = k.queued;
    }

module _ (first : List ℕ) (ticks : List (List Action)) (acknowledged : ℕ) (images : Images) (logs : Logs) where
  -- with no job in work the queue is all that is left
  idle_numbered : (queue : List Record) (k : IsKept first ticks acknowledged images logs queue) → is_idle logs → AreNumbered k.taken queue
  idle_numbered queue k idle = subst (λ o. AreNumbered k.taken (with_work o queue)) idle.1 k.numbered

  idle_has : (queue : List Record) (k : IsKept first ticks acknowledged images logs queue) → is_idle logs → HasUpTo logs k.taken images.tick queue
  idle_has queue k idle = subst (λ o. HasUpTo logs k.taken images.tick (with_work o queue)) idle.1 k.has

  idle_bases : (queue : List Record) (k : IsKept first ticks acknowledged images logs queue) → is_idle logs
      → base_in logs.before ++ logs.base ∷ switches_in queue ≡ k.follow_marks.earlier ++ images.tick ∷ round_tick images.round
  idle_bases queue k idle = subst (λ o. base_in logs.before ++ logs.base ∷ coming o (switches_in queue) ≡ k.follow_marks.earlier ++ images.tick ∷ round_tick images.round) idle.1 k.follow_marks.bases

  idle_rising : (queue : List Record) (k : IsKept first ticks acknowledged images logs queue) → is_idle logs → RiseFrom logs.base (switches_in queue)
  idle_rising queue k idle = subst (λ o. RiseFrom logs.base (coming o (switches_in queue))) idle.1 k.follow_marks.rising

  pub keeps_group : (group : List (List Action)) (queue left : List Record) → StandBefore group queue left → 1 ≤ length group
      → IsKept first ticks acknowledged images logs queue → is_idle logs → IsKept first ticks acknowledged images (with_group logs group) left
  keeps_group group queue left stand some k idle =
      let f = k.logs_follow in
      let m = k.follow_marks in
      let at : logs.base + length logs.kept ≡ k.taken = sym (idle_count logs idle.0) ∙ group_at logs k.taken images.tick group queue left stand some (idle_has queue k idle) in
      let kept : FollowsFrom ticks logs.base logs.kept = follows_front ticks logs.base logs.kept logs.pending f.taken in
      let rest : drop k.taken ticks ≡ group ++ ticks_in left = k.left ∙ group_ticks group queue left stand in
      let both : FollowsFrom ticks logs.base (logs.kept ++ group) = group_follows ticks logs.base logs.kept group (ticks_in left) kept (ap (λ n. drop n ticks) at ∙ rest) in
      let end : k.taken + length group ≡ logs.base + length (logs.kept ++ group) = omega (arith, at, length-append logs.kept group) in
      let numbered : AreNumbered (k.taken + length group) left = group_numbered k.taken group queue left stand (idle_numbered queue k idle) in
      let same : switches_in queue ≡ switches_in left = group_switches group queue left stand in
      let begin : BeginFrom (logs.base + length (logs.kept ++ group)) (switches_in left) = subst (λ n. BeginFrom n (switches_in left)) end (first_switch (k.taken + length group) left numbered) in
      record {
        worlds = k.worlds;
        logs_follow = record { taken = both; acknowledges = f.acknowledges; before = f.before; switch = subst (IsSwitchOf images.tick (with_group logs group)) (sym idle.1) tt };
        follow_marks = record {
          earlier = m.earlier;
          bases = subst (λ l. base_in logs.before ++ logs.base ∷ coming logs.switch l ≡ m.earlier ++ images.tick ∷ round_tick images.round) same m.bases;
          rising = subst (λ l. RiseFrom logs.base (coming logs.switch l)) same m.rising;
          in_order = subst (λ o. BeginFrom (logs.base + length (logs.kept ++ group)) (coming o (switches_in left))) (sym idle.1) begin;
        };
        queued = record {
          taken = k.taken + length group;
          some_taken = omega (arith, end, both.ended);
          left = sym (drop-drop (length group) k.taken ticks) ∙ ap (drop (length group)) rest ∙ drop_at group (ticks_in left) (length group) refl;
          numbered = subst (λ o. AreNumbered (k.taken + length group) (with_work o left)) (sym idle.1) numbered;
          has = inl (sym end);
        };
      }

  switch_reaches : (mark taken newest : ℕ) (queue : List Record) → mark ≡ taken → logs.pending ≡ [] → HasUpTo logs taken newest queue → Reaches (logs.base + length logs.kept) mark newest
  switch_reaches mark taken newest queue e none b = search (rules, idle_count)

  pub keeps_switch_begun : (mark : ℕ) (left : List Record)
      → IsKept first ticks acknowledged images logs (records.Switch mark ∷ left) → is_idle logs → IsKept first ticks acknowledged images (with_switch logs mark) left
  keeps_switch_begun mark left k idle = search (rules, idle_bases, idle_has, idle_numbered, idle_rising, switch_reaches)

  -- the ticks of a closed segment reach up to the next one's base
  switch_kept : (mark newest : ℕ) → Reaches (logs.base + length logs.kept) mark newest → Reached acknowledged (logs.base + length logs.kept) newest → Reached acknowledged (mark + 0) newest
  switch_kept mark newest (inl e) (inl h) = inl (omega (arith, e, h))
  switch_kept mark newest (inr r) (inl h) = inl (omega (arith, r.0, h))
  switch_kept mark newest r (inr h) = inr h

  pub keeps_switched : (mark : ℕ) (queue : List Record) → IsKept first ticks acknowledged images logs queue
      → logs.switch ≡ Some mark → IsKept first ticks acknowledged images (switched_to logs mark) queue
  keeps_switched mark queue k is =
      let f = k.logs_follow in
      let m = k.follow_marks in
      let of : IsSwitchOf images.tick logs (Some mark) = subst (IsSwitchOf images.tick logs) is f.switch in
      let numbered : AreNumbered k.taken (records.Switch mark ∷ queue) = subst (λ o. AreNumbered k.taken (with_work o queue)) is k.numbered in
      let rise : RiseFrom logs.base (mark ∷ switches_in queue) = subst (λ o. RiseFrom logs.base (coming o (switches_in queue))) is m.rising in
      let bases : base_in logs.before ++ logs.base ∷ mark ∷ switches_in queue
      ≡ m.earlier ++ images.tick ∷ round_tick images.round = subst
      (λ o. base_in logs.before ++ logs.base ∷ coming o (switches_in queue) ≡ m.earlier ++ images.tick ∷ round_tick images.round) is m.bases in
      let done = bases_done logs.before logs.base mark images.tick (switches_in queue) m.earlier images.round bases in
      let kept : FollowsFrom ticks logs.base logs.kept = follows_front ticks logs.base logs.kept logs.pending f.taken in
      record {
        worlds = k.worlds;
        logs_follow = record {
          taken = record { ended = omega (arith, numbered.0, k.some_taken); are = refl };
          acknowledges = switch_kept mark images.tick of.2 f.acknowledges;
          before = (of.0, kept, of.2);
          switch = tt;
        };
        follow_marks = record {
          earlier = done.0;
          bases = done.1;
          rising = rise.1;
          in_order = subst (λ n. BeginFrom n (switches_in queue)) (let e : mark ≡ mark + 0 = omega arith in e) (begins mark (switches_in queue) rise.1);
        };
        queued = record {
          taken = k.taken;
          some_taken = k.some_taken;
          left = k.left;
          numbered = numbered.1;
          has = inl (omega (arith, numbered.0));
        };
      }

  going_on_keeps : (queue : List Record) (next : Logs) (left : List Record) → IsKept first ticks acknowledged images logs queue
      → GoesOn logs queue next left → IsKept first ticks acknowledged images next left
  going_on_keeps queue next left k (inl same) =
      subst (λ l. IsKept first ticks acknowledged images l left) (sym same.0) (subst (λ q. IsKept first ticks acknowledged images logs q) (sym same.1) k)
  going_on_keeps queue next left k (inr (inl t)) =
      subst (λ l. IsKept first ticks acknowledged images l left) (sym t.is) (keeps_group t.group queue left t.in_front t.some k t.idle)
  going_on_keeps queue next left k (inr (inr t)) =
      subst (λ l. IsKept first ticks acknowledged images l left) (sym t.is) (keeps_switch_begun t.tick left (subst (λ q. IsKept first ticks acknowledged images logs q) t.in_front k) t.idle)

  switching_keeps : (queue : List Record) (next : Logs) (left : List Record) → IsKept first ticks acknowledged images logs queue
      → EndsSwitch logs queue next left → IsKept first ticks acknowledged images next left
  switching_keeps queue next left k s = search (rules, keeps_switched)

  -- if a group is in work, the segment has with it all ticks before the queue
  group_taken : (queue : List Record) (k : IsKept first ticks acknowledged images logs queue) → 1 ≤ length logs.pending → logs.base + length (logs.kept ++ logs.pending) ≡ k.taken
  group_taken queue k some = elim k.has [ inl e ↦ e | inr h ↦ absurd (omega (arith, some, ap length h.0)) ]

  acknowledging_keeps : (queue : List Record) (next : Logs) (left : List Record) (tick : ℕ)
      → IsKept first ticks acknowledged images logs queue → Acknowledges logs queue next left tick → IsKept first ticks (max acknowledged tick) images next left
  acknowledging_keeps queue next left tick k a =
      let f = k.logs_follow in
      let m = k.follow_marks in
      let end = logs.base + length (logs.kept ++ logs.pending) in
      let same : logs.kept ++ logs.pending ≡ (logs.kept ++ logs.pending) ++ [] = sym (append-nil (logs.kept ++ logs.pending)) in
      let count : logs.base + length (logs.kept ++ logs.pending) ≡ logs.base + length ((logs.kept ++ logs.pending) ++ []) = ap (λ l. logs.base + length l) same in
      let more : logs.base + length logs.kept ≤ logs.base + length (logs.kept ++ logs.pending) = omega (arith, length-append logs.kept logs.pending) in
      let after : IsKept first ticks (max acknowledged tick) images (with_group_kept logs) queue = record {
        worlds = k.worlds;
        logs_follow = record {
          taken = subst (FollowsFrom ticks logs.base) same f.taken;
          acknowledges =
              reached_max acknowledged tick (logs.base + length (logs.kept ++ logs.pending)) images.tick
              (reached_more acknowledged (logs.base + length logs.kept) (logs.base + length (logs.kept ++ logs.pending)) images.tick f.acknowledges more) (inl (omega (arith, a.tick_is)));
          before = f.before;
          switch = subst (IsSwitchOf images.tick (with_group_kept logs)) (sym a.no_switch) tt;
        };
        follow_marks = record { earlier = m.earlier; bases = m.bases; rising = m.rising; in_order = subst (λ n. BeginFrom n (coming logs.switch (switches_in queue))) count m.in_order };
        queued = record {
          taken = k.taken;
          some_taken = k.some_taken;
          left = k.left;
          numbered = k.numbered;
          has = inl (sym count ∙ group_taken queue k a.some);
        };
      } in
      subst (λ l. IsKept first ticks (max acknowledged tick) images l left) (sym a.is) (subst (λ q. IsKept first ticks (max acknowledged tick) images (with_group_kept logs) q) (sym a.queue_is) after)

  pub log_step_keeps : (queue : List Record) (given : LogAnswer) (next : Logs) (left : List Record)
      → IsKept first ticks acknowledged images logs queue → LogsStep logs queue given next left → IsKept first ticks (acknowledged_after acknowledged given) images next left
  log_step_keeps queue answer.Idle next left k s = going_on_keeps queue next left k (inl (s.2, s.3))
  log_step_keeps queue answer.Working next left k (inl s) = going_on_keeps queue next left k s
  log_step_keeps queue answer.Working next left k (inr s) = switching_keeps queue next left k s
  log_step_keeps queue (answer.Acked tick) next left k s = acknowledging_keeps queue next left tick k s
  log_step_keeps queue answer.Down next left k s = going_on_keeps queue next left k s

  -- ---- a cover

  keeps_covered : (tick : ℕ) (front behind : List Record) → IsKept first ticks acknowledged images logs (front ++ records.Switch tick ∷ behind) → tick ≤ images.tick → is_idle logs
      → IsKept first ticks (max acknowledged tick) images logs (records.Switch tick ∷ behind)
  keeps_covered tick front behind k opened idle =
      let queue : List Record = front ++ records.Switch tick ∷ behind in
      let f = k.logs_follow in
      let m = k.follow_marks in
      let n = numbered_behind k.taken tick front behind (idle_numbered queue k idle) in
      let end : logs.base + length (logs.kept ++ logs.pending) ≤ tick = omega (arith, n.0, has_upto logs k.taken images.tick queue idle.0 (idle_has queue k idle)) in
      let same : switches_in queue ≡ switches_in front ++ tick ∷ switches_in behind = switches_behind front (records.Switch tick ∷ behind) in
      let rise : RiseFrom logs.base (switches_in front ++ tick ∷ switches_in behind) = subst (RiseFrom logs.base) same (idle_rising queue k idle) in
      let bases : base_in logs.before ++ logs.base ∷ (switches_in front ++ tick ∷ switches_in behind) ≡ m.earlier ++ images.tick ∷ round_tick images.round =
      subst (λ l. base_in logs.before ++ logs.base ∷ l ≡ m.earlier ++ images.tick ∷ round_tick images.round) same (idle_bases queue k idle) in
      let covered = bases_covered ticks logs.base images.tick tick logs.before (switches_in front) (switches_in behind) m.earlier (round_tick images.round) f.before rise opened bases in
      let rest : drop k.taken ticks ≡ ticks_in front ++ ticks_in behind = k.left ∙ ticks_behind front (records.Switch tick ∷ behind) in
      record {
        worlds = k.worlds;
        logs_follow = record {
          taken = f.taken;
          acknowledges = reached_max acknowledged tick (logs.base + length logs.kept) images.tick f.acknowledges (inr opened);
          before = f.before;
          switch = f.switch;
        };
        follow_marks = record {
          earlier = covered.0;
          bases = subst (λ o. base_in logs.before ++ logs.base ∷ coming o (tick ∷ switches_in behind) ≡ covered.0 ++ images.tick ∷ round_tick images.round) (sym idle.1) covered.1;
          rising = subst (λ o. RiseFrom logs.base (coming o (tick ∷ switches_in behind))) (sym idle.1) (below_rising logs.base tick (switches_in front) (switches_in behind) rise).2;
          in_order = subst (λ o. BeginFrom (logs.base + length (logs.kept ++ logs.pending)) (coming o (tick ∷ switches_in behind))) (sym idle.1) end;
        };
        queued = record {
          taken = tick;
          some_taken = omega (arith, n.0, ap length rest, length-append (ticks_in front) (ticks_in behind), length-drop k.taken ticks, k.some_taken);
          left =
              ap (λ i. drop i ticks) n.0 ∙ sym (drop-drop (length (ticks_in front)) k.taken ticks) ∙ ap
              (drop (length (ticks_in front))) rest ∙ drop_at (ticks_in front) (ticks_in behind) (length (ticks_in front)) refl;
          numbered = subst (λ o. AreNumbered tick (with_work o (records.Switch tick ∷ behind))) (sym idle.1) (refl, n.1);
          has = subst (λ o. HasUpTo logs tick images.tick (with_work o (records.Switch tick ∷ behind))) (sym idle.1) (inr (idle.0, omega (arith, end, idle_count logs idle.0), opened, tt));
        };
      }

  -- with the queue as it was before the cover
  at_switch : (queue : List Record) (tick : ℕ) (taken left : List Record) → IsKept first ticks acknowledged images logs queue
      → (c : Covers logs queue tick taken left) → IsKept first ticks acknowledged images logs (taken ++ records.Switch tick ∷ c.behind)
  at_switch queue tick taken left k c = subst (λ q. IsKept first ticks acknowledged images logs q) (c.in_front ∙ ap (λ l. taken ++ l) c.next) k

  covers_keep : (queue : List Record) (tick : ℕ) (taken left : List Record) → IsKept first ticks acknowledged images logs queue
      → tick ≤ images.tick → Covers logs queue tick taken left → IsKept first ticks (max acknowledged tick) images logs left
  covers_keep queue tick taken left k opened c =
      subst (λ q. IsKept first ticks (max acknowledged tick) images logs q) (sym c.next) (keeps_covered tick taken c.behind (at_switch queue tick taken left k c) opened c.idle)

  pub cover_keeps : (queue : List Record) (tick : ℕ) (given : LogAnswer) (left : List Record)
      → IsKept first ticks acknowledged images logs queue → tick ≤ images.tick → CoverStep logs queue tick given left
      → IsKept first ticks (acknowledged_after acknowledged given) images logs left
  cover_keeps queue tick answer.Idle left k opened s = subst (λ q. IsKept first ticks acknowledged images logs q) (sym s) k
  cover_keeps queue tick answer.Working left k opened s =
      keeps_fewer first ticks (max acknowledged tick) acknowledged images logs left (omega arith) (covers_keep queue tick s.0 left k opened s.1)
  cover_keeps queue tick (answer.Acked number) left k opened s =
      subst (λ n. IsKept first ticks (max acknowledged n) images logs left) (sym s.3) (covers_keep queue tick s.0 left k opened s.1)
  cover_keeps queue tick answer.Down left k opened s = subst (λ q. IsKept first ticks acknowledged images logs q) (sym s) k

  pub cover_receipt_is_exact : (queue : List Record) (tick : ℕ) (given : LogAnswer) (left : List Record)
      → IsKept first ticks acknowledged images logs queue → CoverStep logs queue tick given left → ReceiptIs given ticks left
  cover_receipt_is_exact queue tick answer.Idle left k s = tt
  cover_receipt_is_exact queue tick answer.Working left k s = tt
  cover_receipt_is_exact queue tick (answer.Acked number) left k s =
      let taken = s.0 in
      let behind = s.1.behind in
      let all : List Record = taken ++ records.Switch tick ∷ behind in
      let at = at_switch queue tick taken left k s.1 in
      let n = numbered_behind at.taken tick taken behind (idle_numbered all at s.1.idle) in
      omega (
        arith,
        s.3,
        n.0,
        ap length at.left,
        ap length (ticks_behind taken (records.Switch tick ∷ behind)),
        length-append (ticks_in taken) (ticks_in behind),
        length-drop at.taken ticks,
        at.some_taken,
        ap (λ q. length (ticks_in q)) s.1.next,
      )
  cover_receipt_is_exact queue tick answer.Down left k s = tt

  -- ---- the number in a receipt

  pub receipt_is_exact : (queue : List Record) (given : LogAnswer) (next : Logs) (left : List Record)
      → IsKept first ticks acknowledged images logs queue → LogsStep logs queue given next left → ReceiptIs given ticks left
  receipt_is_exact queue b next left k s = search (rules, group_taken, length-drop)
