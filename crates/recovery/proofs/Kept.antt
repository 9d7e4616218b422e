-- Each event keeps the premises of the law of recovery.
use Rattle.std.proofs.Common.{rules}
use Rattle.std.proofs.Common.{◌≡◌, ℕ, ◌+◌, ◌<◌, ◌≤◌, inl, inr, max, List, [], ◌∷◌, ◌++◌, length, Option, Some, None, Ok, refl, sym, ap, subst, ◌∙◌, arith}
use Rattle.std.proofs.lemmas.List.{append-nil, append_assoc, length-append, length-drop, drop-append-le}
use Rattle.world_actions.specs.declared.action.Action.{Action}
use Rattle.world_ticks.specs.After.{and_then, after_actions, after_ticks}
use Rattle.capture_core.specs.declared.taker.Taken.{Taken}
use Rattle.image_files.specs.declared.answer.ImageAnswer.{ImageAnswer}
use Rattle.image_files.specs.declared.answer.ImageAnswer.TheVariants as answer
use Rattle.image_files.specs.Images.{Round, Images, ImageFiles, Newest, round_in, with_cell, with_taken, with_round, StepsImages}
use Rattle.action_log.specs.Logs.{Logs}
use Rattle.recovery.specs.Recovery.{words_after}
use Rattle.recovery.specs.Follow.{IsRoundOf, round_tick, FollowMarks}
use Rattle.recovery.specs.Events.{ticks_in, switches_in, with_work, IsKept, acknowledged_opened}
use Rattle.action_log.specs.declared.record.Record.{Record}
use Rattle.action_log.specs.declared.record.Record.TheVariants as records
use Rattle.world_ticks.specs.Tick.{Actions}
use Rattle.recovery.proofs.Replay.{words_after-append}
use Rattle.recovery.proofs.Events.{with_round_begun, with_round_opened, logs_opened, has_later, coming_more, bases_more}
use Rattle.recovery.proofs.Events.{rising_more, begin_more, mark_numbered, tick_numbered, has_more, end_images, end_logs}
use Rattle.recovery.proofs.Events.{opened_follows}

-- ---- a tick ends

ticks_behind : (queue : List Record) (tick : Actions) → ticks_in (queue ++ records.Tick tick ∷ []) ≡ ticks_in queue ++ tick.list ∷ []
ticks_behind [] tick = refl
ticks_behind (records.Tick first ∷ queue) tick = ap (λ l. first.list ∷ l) (ticks_behind queue tick)
ticks_behind (records.Switch mark ∷ queue) tick = ticks_behind queue tick

no_switch_behind : (queue : List Record) (tick : Actions) → switches_in (queue ++ records.Tick tick ∷ []) ≡ switches_in queue
no_switch_behind [] tick = refl
no_switch_behind (records.Tick first ∷ queue) tick = no_switch_behind queue tick
no_switch_behind (records.Switch mark ∷ queue) tick = ap (λ l. mark ∷ l) (no_switch_behind queue tick)

one_more : (first : List ℕ) (ticks : List (List Action)) (tick : List Action) (last next : List ℕ)
    → after_ticks first ticks ≡ Ok last → after_actions last tick ≡ Ok next → after_ticks first (ticks ++ tick ∷ []) ≡ Ok next
one_more first ticks tick last next all e =
    words_after-append first ticks (tick ∷ [])
    ∙ ap (λ r. and_then r (λ n. words_after n (tick ∷ []))) all
    ∙ ap (after_actions last) (append-nil tick)
    ∙ e

pub tick_ends : (first : List ℕ) (ticks : List (List Action)) (acknowledged : ℕ) (images : Images) (logs : Logs) (queue : List Record)
    (kept : IsKept first ticks acknowledged images logs queue) (tick : Actions) (next : List ℕ) → after_actions kept.last tick.list ≡ Ok next
    → IsKept first (ticks ++ tick.list ∷ []) acknowledged images logs (queue ++ records.Tick tick ∷ [])
tick_ends first ticks acknowledged images logs queue k tick next e =
    let m = k.follow_marks in
    let same : switches_in queue ≡ switches_in (queue ++ records.Tick tick ∷ []) = sym (no_switch_behind queue tick) in
    record {
      worlds =
          record {
            some_cells = k.some_cells;
            last = next;
            accepted = one_more first ticks tick.list k.last next k.accepted e;
            images_follow = end_images first ticks (tick.list ∷ []) images k.images_follow;
          };
      logs_follow = end_logs ticks (tick.list ∷ []) acknowledged images.tick logs k.logs_follow;
      follow_marks = subst (λ l. FollowMarks l images logs) same m;
      queued = record {
        taken = k.taken;
        some_taken = omega (arith, k.some_taken, length-append ticks (tick.list ∷ []));
        left = drop-append-le k.taken ticks (tick.list ∷ []) k.some_taken ∙ ap (λ l. l ++ tick.list ∷ []) k.left ∙ sym (ticks_behind queue tick);
        numbered = tick_numbered logs.switch k.taken tick queue k.numbered;
        has = has_more logs k.taken images.tick logs.switch queue (records.Tick tick) k.has;
      };
    }

-- ---- a mark

switch_behind : (queue : List Record) (mark : ℕ) → ticks_in (queue ++ records.Switch mark ∷ []) ≡ ticks_in queue
switch_behind [] mark = refl
switch_behind (records.Tick first ∷ queue) mark = ap (λ l. first.list ∷ l) (switch_behind queue mark)
switch_behind (records.Switch other ∷ queue) mark = switch_behind queue mark

next_switch : (queue : List Record) (mark : ℕ) → switches_in (queue ++ records.Switch mark ∷ []) ≡ switches_in queue ++ mark ∷ []
next_switch [] mark = refl
next_switch (records.Tick first ∷ queue) mark = next_switch queue mark
next_switch (records.Switch other ∷ queue) mark = ap (λ l. other ∷ l) (next_switch queue mark)

mark_follows : (later : List ℕ) (images : Images) (logs : Logs) (mark : ℕ) → FollowMarks later images logs → images.round ≡ None
    → images.tick < mark → logs.base + length (logs.kept ++ logs.pending) ≤ mark → FollowMarks (later ++ mark ∷ []) (with_round_begun images mark) logs
mark_follows later images logs mark m none above taken = search (rules, bases_more, begin_more, coming_more, rising_more)

marked : (first : List ℕ) (ticks : List (List Action)) (acknowledged : ℕ) (images : Images) (logs : Logs) (queue : List Record)
    → IsKept first ticks acknowledged images logs queue → images.round ≡ None → images.tick < length ticks
    → IsKept first ticks acknowledged (with_round_begun images (length ticks)) logs (queue ++ records.Switch (length ticks) ∷ [])
marked first ticks acknowledged images logs queue k none above = search (rules, has_more, length-drop, mark_follows, mark_numbered, next_switch, switch_behind, with_round_begun)

pub mark_is_made : (first : List ℕ) (ticks : List (List Action)) (acknowledged : ℕ) (images next : Images) (logs : Logs) (queue : List Record)
    → IsKept first ticks acknowledged images logs queue → images.round ≡ None → images.tick < length ticks → with_round (length ticks) (Newest images) ≡ Newest next
    → IsKept first ticks acknowledged next logs (queue ++ records.Switch (length ticks) ∷ [])
mark_is_made first ticks acknowledged images next logs queue k none above is =
    let same : with_round_begun images (length ticks) ≡ next = cc in
    subst (λ i. IsKept first ticks acknowledged i logs (queue ++ records.Switch (length ticks) ∷ [])) same (marked first ticks acknowledged images logs queue k none above)

-- ---- a step of the image keeper

-- the round in work has another word, and the same tick
pub with_words : (first : List ℕ) (ticks : List (List Action)) (acknowledged : ℕ) (images : Images) (logs : Logs) (queue : List Record) (round : Round) (taken : List ℕ)
    → IsKept first ticks acknowledged images logs queue → images.round ≡ Some round → IsRoundOf first ticks images.tick (Some (record round { taken = taken }))
    → IsKept first ticks acknowledged (record images { round = Some (record round { taken = taken }) }) logs queue
with_words first ticks acknowledged images logs queue round taken k some of = search rules

pub opened_keeps : (first : List ℕ) (ticks : List (List Action)) (acknowledged : ℕ) (images : Images) (logs : Logs) (queue : List Record) (round : Round)
    → IsKept first ticks acknowledged images logs queue → images.round ≡ Some round → length round.taken ≡ length first
    → IsKept first ticks (max acknowledged round.tick) (with_round_opened images round) logs queue
opened_keeps first ticks acknowledged images logs queue round k some whole =
    let m = k.follow_marks in
    let of : IsRoundOf first ticks images.tick (Some round) = subst (IsRoundOf first ticks images.tick) some k.images_follow.round in
    let later : images.tick ≤ round.tick = omega (arith, of.0) in
    record {
      worlds = record { some_cells = k.some_cells; last = k.last; accepted = k.accepted; images_follow = opened_follows first ticks images round k.images_follow of whole };
      logs_follow = logs_opened ticks acknowledged images.tick round.tick logs later k.logs_follow;
      follow_marks = record {
        earlier = m.earlier ++ images.tick ∷ [];
        bases = m.bases ∙ ap (λ r. m.earlier ++ images.tick ∷ round_tick r) some ∙ sym (append_assoc m.earlier (images.tick ∷ []) (round.tick ∷ []));
        rising = m.rising;
        in_order = m.in_order;
      };
      queued =
          record { taken = k.taken; some_taken = k.some_taken; left = k.left; numbered = k.numbered; has = has_later logs k.taken images.tick round.tick (with_work logs.switch queue) later k.has };
    }

module _ {S : Type 0} (took : S → Option Taken → S → Type 0) (first : List ℕ) (ticks : List (List Action)) (acknowledged : ℕ) (images : Images) (logs : Logs) (queue : List Record) where
  pub image_step_keeps : (answer : ImageAnswer) (next : ImageFiles) (old new : S)
      → IsKept first ticks acknowledged images logs queue → StepsImages took (length first) (Newest images) answer next old new
      → IsRoundOf first ticks images.tick (round_in next) → (after : Images) × (next ≡ Newest after) × IsKept first ticks (acknowledged_opened acknowledged answer) after logs queue
  image_step_keeps answer.Idle next old new k s of = (images, s.1, k)
  image_step_keeps answer.Working next old new k (round, some, inl same) of = (images, same.0, k)
  image_step_keeps answer.Working next old new k (round, some, inr (cell, taken, is)) of =
      let grown : next ≡ Newest (record images { round = Some (with_cell cell images.words round) }) =
      is ∙ ap (λ o. with_taken cell (Newest (record images { round = o }))) some in
      let here : IsRoundOf first ticks images.tick (Some (with_cell cell images.words round)) = subst (λ n. IsRoundOf first ticks images.tick (round_in n)) grown of in
      (record images { round = Some (with_cell cell images.words round) }, grown, with_words first ticks acknowledged images logs queue round (with_cell cell images.words round).taken k some here)
  image_step_keeps (answer.Opened tick) next old new k (round, some, at, whole, is, same) of = (
    with_round_opened images round,
    is,
    subst (λ n. IsKept first ticks (max acknowledged n) (with_round_opened images round) logs queue) (sym at) (opened_keeps first ticks acknowledged images logs queue round k some whole),
  )
  image_step_keeps answer.Down next old new k (round, some, is, same) of = (images, is, k)
