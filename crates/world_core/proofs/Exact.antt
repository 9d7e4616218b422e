-- The keepers and the queue of a core agree with its moves and answers.
use Rattle.std.proofs.Common.{◌≡◌, ◌↔◌, ◌⊎◌, inl, inr, ℕ, ◌<◌, Bool, true, false, nat_lt, nat_le, if◌then◌else◌, ◌&&◌}
use Rattle.std.proofs.Common.{length, Option, Some, None, is_some, option_map, IsTrue, lt-ltb}
use Rattle.std.proofs.Common.{ltb-true, refl, sym, ap, subst, ◌∙◌}
use Rattle.world_actions.specs.declared.action.Action.{Action}
use Rattle.world_actions.specs.declared.refusal.Refusal.{Refusal}
use Rattle.world_actions.specs.declared.refusal.Refusal.TheVariants.{NoMemory, TicksEnded, SegmentFull}
use Rattle.world_ticks.specs.Tick.{decision}
use Rattle.world_ticks.specs.declared.tick.TheConstants.{TICK_MAX}
use Rattle.action_log.specs.declared.format.TheConstants.{SEGMENT_TICKS}
use Rattle.world_core.specs.declared.moves.Answer.TheVariants as answer
use Rattle.world_core.specs.Exact.{tick_refusal_in, IsActionAnswer}
use Rattle.image_files.specs.declared.phase.Phase.{Phase}
use Rattle.image_files.specs.declared.phase.Phase.TheVariants.{Idle}
use Rattle.image_files.specs.Images.{Round, ImageFiles, round_in}
use Rattle.world_core.specs.Standing.{is_starting, is_round_open, is_log_waiting, mark_refusal_at, unless_refused, action_answer}
use Rattle.engine.specs.Refusals.{tick_refusal, tick_refusal_of, mark_refusal, is_down, is_in_round}
use Rattle.world_core.specs.Past.{Past}
use Rattle.image_files.specs.Progress.{newest_tick}
use Rattle.world_core.specs.State.{State}
use Rattle.world_core.specs.Laws.{KeeperLaws}
use Rattle.world_core.specs.Facts.{IsCoreAt, AreReported}
use Rattle.action_log.specs.Logs.{LogPlace}

-- the same images and the same log, by other names
pub still_reported : (past : Past) (state : State) (images given : ImageFiles) (place said : LogPlace) → images ≡ given → place ≡ said → AreReported past state given said
    → AreReported past state images place
still_reported past state images given place said same_images same_place reported =
    subst (λ (x : ImageFiles × LogPlace). AreReported past state x.0 x.1) (λ i. ((sym same_images) i, (sym same_place) i)) reported

-- ---- the state of the keepers

by_bool : (b : Bool) → (b ≡ true → ⊥) → false ≡ b
by_bool true h = absurd (h refl)
by_bool false h = refl

not_lt : (n : ℕ) → (0 < n → ⊥) → false ≡ nat_lt 0 n
not_lt n h = by_bool (nat_lt 0 n) (λ e. h (ltb-true 0 n e))

true_iff : (b : Bool) (n : ℕ) → IsTrue b ↔ (0 < n) → b ≡ nat_lt 0 n
true_iff true n h = sym (lt-ltb 0 n (h.0 refl))
true_iff false n h = not_lt n (λ e. (let g : false ≡ true = h.1 e in absurd (let q = g in cc)))

in_round : (p : Phase) (opened : Bool) → (p ≡ Idle → opened ≡ false) → ((p ≡ Idle → ⊥) → opened ≡ true) → is_in_round p ≡ opened
in_round Idle o none some = sym (none refl)
in_round p o none some = sym (some (λ e. let g = e in cc))

pub starting_is : KeeperLaws → (past : Past) (state : State) → IsCoreAt past state → state.log.starting ≡ is_starting past.standing
starting_is laws past state c = true_iff state.log.starting c.place.left (laws.left state.log state.files.log_a state.files.log_b c.place c.has_log) ∙ ap (nat_lt 0) (sym c.reported.start_left)

pub round_is : KeeperLaws → (past : Past) (state : State) (c : IsCoreAt past state) → is_in_round state.images.phase ≡ is_some (round_in c.images)
round_is laws past state c = in_round state.images.phase (is_some (round_in c.images))
    (λ e. ap is_some (laws.idle state.images c.images state.files.image_a state.files.image_b c.has_images e))
    (λ e. ap is_some (laws.round state.images c.images state.files.image_a state.files.image_b c.has_images e).1)

some_tick : (round : Option Round) → is_some (option_map (λ (r : Round). r.tick) round) ≡ is_some round
some_tick None = refl
some_tick (Some round) = refl

open_is : (past : Past) (state : State) (c : IsCoreAt past state) → is_round_open past.standing ≡ is_some (round_in c.images)
open_is past state c = ap is_some c.reported.round ∙ some_tick (round_in c.images)

pub waiting_is : KeeperLaws → (past : Past) (state : State) → IsCoreAt past state → (state.log.starting && is_in_round state.images.phase) ≡ is_log_waiting past.standing
waiting_is laws past state c = (λ i. starting_is laws past state c i && (round_is laws past state c ∙ sym (open_is past state c)) i)

pub mark_refusal_is : KeeperLaws → (past : Past) (state : State) → IsCoreAt past state
    → mark_refusal state.log.starting state.log.down (is_down state.images.phase) (is_in_round state.images.phase) state.ended (newest_tick state.images.newest) (length state.queue) state.running
    ≡ mark_refusal_at past.standing (length past.history.ticks) (length state.queue) past.history.running
mark_refusal_is laws past state c =
    let st = past.standing in
    let queued = length state.queue in
    ap (λ b. mark_refusal b state.log.down (is_down state.images.phase) (is_in_round state.images.phase) state.ended
    (newest_tick state.images.newest) queued state.running) (starting_is laws past state c)
    ∙ ap
    (λ b. mark_refusal (is_starting st) b (is_down state.images.phase) (is_in_round state.images.phase) state.ended (newest_tick state.images.newest) queued state.running) (sym c.reported.log_down)
    ∙ ap (λ b. mark_refusal (is_starting st) st.is_log_down b (is_in_round state.images.phase) state.ended (newest_tick state.images.newest) queued state.running) (sym c.reported.image_down)
    ∙ ap
    (λ b. mark_refusal (is_starting st) st.is_log_down st.is_image_down b state.ended (newest_tick state.images.newest) queued state.running) (round_is laws past state c ∙ sym (open_is past state c))
    ∙ ap (λ n. mark_refusal (is_starting st) st.is_log_down st.is_image_down (is_round_open st) n (newest_tick state.images.newest) queued state.running) c.follows.ended
    ∙ ap (λ n. mark_refusal (is_starting st) st.is_log_down st.is_image_down (is_round_open st) (length past.history.ticks) n queued state.running)
    (ap newest_tick (laws.newest state.images c.images state.files.image_a state.files.image_b c.has_images) ∙ sym c.reported.newest)
    ∙ ap (λ r. mark_refusal (is_starting st) st.is_log_down st.is_image_down (is_round_open st) (length past.history.ticks) st.newest queued r) c.running

-- ---- the refusal of an action

pub tick_refusal_is : KeeperLaws → (past : Past) (state : State) → IsCoreAt past state → tick_refusal_of state ≡ tick_refusal_in past
tick_refusal_is laws past state c =
    ap (λ b. tick_refusal b state.log.down state.ended state.since) (starting_is laws past state c)
    ∙ ap (λ b. tick_refusal (is_starting past.standing) b state.ended state.since) (sym c.reported.log_down)
    ∙ ap (λ n. tick_refusal (is_starting past.standing) past.standing.is_log_down n state.since) c.follows.ended
    ∙ ap (λ n. tick_refusal (is_starting past.standing) past.standing.is_log_down (length past.history.ticks) n) c.since

no_memory_of : (ended full : Bool) → Some NoMemory ≡ (if ended then Some TicksEnded else if full then Some SegmentFull else None) → ⊥
no_memory_of true full e = (let g = e in cc)
no_memory_of false true e = (let g = e in cc)
no_memory_of false false e = (let g = e in cc)

-- memory that runs out isn't one of them
no_memory : (starting down : Bool) (ended since : ℕ) → Some NoMemory ≡ tick_refusal starting down ended since → ⊥
no_memory true down ended since e = (let g = e in cc)
no_memory false true ended since e = (let g = e in cc)
no_memory false false ended since e = no_memory_of (nat_le TICK_MAX ended) (nat_le SEGMENT_TICKS since) e

same_refusal : (one other : Refusal) → answer.Refused one ≡ answer.Refused other → one ≡ other
same_refusal one other e = (let g = e in cc)

pub refused_action : KeeperLaws → (past : Past) (state : State) (action : Action) (refusal : Refusal) → IsCoreAt past state
    → Some refusal ≡ tick_refusal_of state → IsActionAnswer past state.content.live action (answer.Refused refusal)
refused_action laws past state action refusal c e =
    let is : Some refusal ≡ tick_refusal_in past = e ∙ tick_refusal_is laws past state c in (
      λ _. ap (λ r. unless_refused r (action_answer (decision state.content.live past.history.running action))) is,
      λ none. absurd (no_memory (is_starting past.standing) past.standing.is_log_down (length past.history.ticks) past.standing.since
          (subst (λ r. Some r ≡ tick_refusal_in past) (same_refusal refusal NoMemory none) is)),
    )

-- ---- the start's log part doesn't wait

no_wait_by : (starting in_round : Bool) (round : Option Round) → in_round ≡ is_some round → (starting && in_round) ≡ false → (starting ≡ false) ⊎ (round ≡ None)
no_wait_by true true round is e = absurd (let g = e in cc)
no_wait_by true false None is e = inr refl
no_wait_by true false (Some round) is e = absurd (let g = is in cc)
no_wait_by false in_round round is e = inl refl

pub no_wait : KeeperLaws → (past : Past) (state : State) (c : IsCoreAt past state)
    → (state.log.starting && is_in_round state.images.phase) ≡ false → (state.log.starting ≡ false) ⊎ (round_in c.images ≡ None)
no_wait laws past state c e = no_wait_by state.log.starting (is_in_round state.images.phase) (round_in c.images) (round_is laws past state c) e
