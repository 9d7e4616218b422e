-- Ticks and marks keep a world in step, and a log with no work left has acknowledged all.
use Rattle.std.proofs.Common.{rules}
use Rattle.std.proofs.Common.{◌≡◌, ℕ, ◌+◌, ◌<◌, ◌≤◌, ◌⊎◌, inl, inr, List, [], ◌∷◌, ◌++◌, length, Some, None, Result, Ok, refl, sym, ap, subst, ◌∙◌, arith}
use Rattle.std.proofs.lemmas.Grind.{flat_map-append}
use Rattle.std.proofs.lemmas.List.{take_all, append-nil, length-drop}
use Rattle.world_actions.specs.declared.action.Action.{Action}
use Rattle.world_actions.specs.declared.refusal.Refusal.{Refusal}
use Rattle.world_ticks.specs.Tick.{Actions}
use Rattle.world_ticks.specs.After.{and_then, after_actions, after_ticks}
use Rattle.capture_core.specs.Content.{Content, Marks, Takes, Covers}
use Rattle.image_files.specs.Images.{Images, ImageFiles, NoneYet, Newest, with_round}
use Rattle.action_log.specs.declared.record.Record.{Record}
use Rattle.action_log.specs.declared.record.Record.TheVariants as records
use Rattle.action_log.specs.Logs.{Logs, Writing}
use Rattle.recovery.specs.Sound.{IsWorldAt}
use Rattle.recovery.specs.Events.{IsKept, EventsKeep}
use Rattle.restart.specs.Rounds.{StoreFollows}
use Rattle.restart.specs.InStep.{HasPhase, InStep}
use Rattle.restart.proofs.Marked.{mark_follows, writes_follow, ticks_follow}

ok_injective : (v w : List ℕ) → ◌≡◌ {A = Result (List ℕ) Refusal} (Ok v) (Ok w) → v ≡ w
ok_injective v w e = cc

-- ---- a tick

-- the world after one more tick
one_more : ((world : List ℕ) (before after : List Action) → after_actions world (before ++ after) ≡ and_then (after_actions world before) (λ next. after_actions next after))
    → (first : List ℕ) (ticks : List (List Action)) (tick : List Action) (last live : List ℕ) → after_ticks first ticks ≡ Ok last
    → after_actions last tick ≡ Ok live → after_ticks first (ticks ++ tick ∷ []) ≡ Ok live
one_more append first ticks tick last live e h = search (rules, append-nil, flat_map-append)

tick_phase : EventsKeep Takes → (first : List ℕ) (ticks : List (List Action)) (acknowledged : ℕ) (images : ImageFiles) (logs : Logs) (queue : List Record) (tick : Actions) (live next : List ℕ)
    → after_ticks first ticks ≡ Ok live → after_actions live tick.list ≡ Ok next → HasPhase first ticks acknowledged images (Writing logs) queue
    → HasPhase first (ticks ++ tick.list ∷ []) acknowledged images (Writing logs) (queue ++ records.Tick tick ∷ [])
tick_phase ends first ticks acknowledged (NoneYet images) logs queue tick live next e h phase = absurd phase
tick_phase ends first ticks acknowledged (Newest images) logs queue tick live next e h phase =
    let same : phase.last ≡ live = ok_injective phase.last live (sym phase.accepted ∙ e) in
    ends.tick_ends first ticks acknowledged images logs queue phase tick next (ap (λ w. after_actions w tick.list) same ∙ h)

pub tick_goes_on : ((world : List ℕ) (before after : List Action) → after_actions world (before ++ after) ≡ and_then (after_actions world before) (λ next. after_actions next after)) → EventsKeep Takes
    → (first : List ℕ) (ticks : List (List Action)) (acknowledged : ℕ) (images : ImageFiles) (logs : Logs) (queue : List Record) (tick : Actions) (old new : Content)
    → after_ticks first ticks ≡ Ok old.live → after_actions old.live tick.list ≡ Ok new.live
    → new.left ≡ old.left → ((image : List ℕ) → Covers image old → Covers image new) → InStep first ticks acknowledged old images (Writing logs) queue
    → (after_ticks first (ticks ++ tick.list ∷ []) ≡ Ok new.live) × InStep first (ticks ++ tick.list ∷ []) acknowledged new images (Writing logs) (queue ++ records.Tick tick ∷ [])
tick_goes_on append ends first ticks acknowledged images logs queue tick old new e h left covers w = (
  one_more append first ticks tick.list old.live new.live e h,
  record {
    store = ticks_follow first ticks (tick.list ∷ []) new images (writes_follow first ticks old new images left covers w.store);
    phase = tick_phase ends first ticks acknowledged images logs queue tick old.live new.live e h w.phase;
  },
)

-- ---- a mark

pub mark_goes_on : EventsKeep Takes → (first : List ℕ) (ticks : List (List Action)) (acknowledged : ℕ) (images : Images) (logs : Logs) (queue : List Record) (old new : Content)
    → images.round ≡ None → images.tick < length ticks → after_ticks first ticks ≡ Ok old.live → length old.live ≡ length first → Marks old new
    → InStep first ticks acknowledged old (Newest images) (Writing logs) queue
    → InStep first ticks acknowledged new (with_round (length ticks) (Newest images)) (Writing logs) (queue ++ records.Switch (length ticks) ∷ [])
mark_goes_on made first ticks acknowledged images logs queue old new none above e all marks w =
    let at : IsWorldAt first ticks (length ticks) old.live = record { ended = omega arith; words_are = ap (after_ticks first) (take_all (length ticks) ticks (omega arith)) ∙ e } in
    let idle : StoreFollows first ticks old images.words None = subst (StoreFollows first ticks old images.words) none w.store in
    record {
      store = mark_follows first ticks (length ticks) images.words old new all at idle.1 marks;
      phase = made.mark first ticks acknowledged images (record images { round = Some (record { tick = length ticks; taken = [] }) }) logs queue w.phase none above refl;
    }

-- ---- no work is left

-- with nothing queued the current segment and the newest image have all ticks
kept_all : (first : List ℕ) (ticks : List (List Action)) (acknowledged : ℕ) (images : Images) (logs : Logs) → logs.pending ≡ [] → (k : IsKept first ticks acknowledged images logs [])
    → (length ticks ≤ logs.base + length logs.kept) ⊎ (length ticks ≤ images.tick)
kept_all first ticks acknowledged images logs none k =
    let all : length ticks ≤ k.taken = omega (arith, ap length k.left, length-drop k.taken ticks, k.some_taken) in
    let front : length (logs.kept ++ logs.pending) ≡ length logs.kept = ap (λ p. length (logs.kept ++ p)) none ∙ ap length (append-nil logs.kept) in
    elim k.has [ inl all_taken ↦ inl (omega (arith, all, all_taken, front)) | inr in_image ↦ inr (omega (arith, all, in_image.2)) ]

all_phase : (first : List ℕ) (ticks : List (List Action)) (acknowledged : ℕ) (images : ImageFiles) (logs : Logs) → logs.pending ≡ [] → HasPhase first ticks acknowledged images (Writing logs) []
    → HasPhase first ticks (length ticks) images (Writing logs) []
all_phase first ticks acknowledged (NoneYet images) logs none phase = absurd phase
all_phase first ticks acknowledged (Newest images) logs none phase =
    record {
      worlds = phase.worlds;
      logs_follow =
          record { taken = phase.logs_follow.taken; acknowledges = kept_all first ticks acknowledged images logs none phase; before = phase.logs_follow.before; switch = phase.logs_follow.switch };
      follow_marks = phase.follow_marks;
      queued = phase.queued;
    }

pub all_acknowledged : (first : List ℕ) (ticks : List (List Action)) (acknowledged : ℕ) (content : Content) (images : ImageFiles) (logs : Logs) → logs.pending ≡ []
    → InStep first ticks acknowledged content images (Writing logs) [] → InStep first ticks (length ticks) content images (Writing logs) []
all_acknowledged first ticks acknowledged content images logs none w = record { store = w.store; phase = all_phase first ticks acknowledged images logs none w.phase }
