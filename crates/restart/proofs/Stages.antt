-- The steps of the keepers keep a world in step.
use Rattle.std.proofs.Common.{rules}
use Rattle.std.proofs.Common.{◌≡◌, ℕ, ◌≤◌, inl, inr, Bool, true, false, List, [], Option, Some, None, option_map, refl, sym, ap, subst, ◌∙◌, length}
use Rattle.std.specs.Prelude.{IfSome}
use Rattle.world_actions.specs.declared.action.Action.{Action}
use Rattle.capture_core.specs.declared.taker.Taken.{Taken}
use Rattle.capture_core.specs.Content.{Content, Takes}
use Rattle.file_format.specs.Slot.{other_slot}
use Rattle.image_files.specs.declared.answer.ImageAnswer.{ImageAnswer}
use Rattle.image_files.specs.declared.answer.ImageAnswer.TheVariants as image_answer
use Rattle.image_files.specs.Image.{Open}
use Rattle.image_files.specs.Images.{Round, Images, FirstImages, ImageFiles, NoneYet, Newest, round_in, with_cell, with_opened, StepsImages}
use Rattle.action_log.specs.declared.record.Record.{Record}
use Rattle.action_log.specs.declared.answer.LogAnswer.{LogAnswer}
use Rattle.action_log.specs.declared.answer.LogAnswer.TheVariants as log_answer
use Rattle.action_log.specs.Logs.{Logs, Start, Journal, InStart, Writing, LogPlace, started}
use Rattle.action_log.specs.LogSteps.{StartStep, StepIn, JournalStep}
use Rattle.action_log.specs.Cover.{CoverStep}
use Rattle.recovery.specs.Start.{IsStarting}
use Rattle.recovery.specs.Events.{IsKept, acknowledged_opened, acknowledged_after, EventsKeep, StartEventsKeep}
use Rattle.restart.specs.Rounds.{StoreFollowsImages}
use Rattle.restart.specs.InStep.{IsInStart, HasPhase, InStep, NoneWaitedFor}
use Rattle.restart.proofs.Stepped.{step_follows, round_follows, first_round_follows}

-- ---- a step of the image keeper

still_some : (cell : Taken) (round after : Option Round) (r : Round) → round ≡ Some r → after ≡ option_map (with_cell cell []) round → (r : Round) × (after ≡ Some r)
still_some cell round after r is e = (with_cell cell [] r, e ∙ ap (option_map (with_cell cell [])) is)

is_newest : ImageFiles → Bool
is_newest (NoneYet images) = false
is_newest (Newest images) = true

opened_newest : (round : Round) (images : FirstImages) → is_newest (with_opened round (NoneYet images)) ≡ true
unfolding is_newest
opened_newest round images = refl

newest_none : (after : FirstImages) → is_newest (NoneYet after) ≡ false
unfolding is_newest
newest_none after = refl

-- the first round stays in work until its image is opened
still_in_work : (cells : ℕ) (old new : Content) (given : ImageAnswer) (images : FirstImages) (next : ImageFiles)
    (after : FirstImages) → StepsImages Takes cells (NoneYet images) given next old new → next ≡ NoneYet after
    → (round : Round) × (images.round ≡ Some round) → (round : Round) × (after.round ≡ Some round)
still_in_work cells old new image_answer.Idle images next after s e r = (r.0, ap round_in (sym e ∙ s.1) ∙ r.1)
still_in_work cells old new image_answer.Working images next after s e r = elim s.2 [
  | inl same ↦ (r.0, ap round_in (sym e ∙ same.0) ∙ r.1)
  | inr cell ↦ still_some cell.0 images.round after.round r.0 r.1 (ap round_in (sym e ∙ cell.2))
]
still_in_work cells old new (image_answer.Opened tick) images next after s e r =
    absurd (let g : true ≡ false = sym (opened_newest s.0 images) ∙ ap is_newest (sym s.4 ∙ e) ∙ newest_none after in cc)
still_in_work cells old new image_answer.Down images next after s e r = (r.0, ap round_in (sym e ∙ s.2) ∙ r.1)

images_tick : ImageFiles → ℕ
images_tick (NoneYet images) = 0
images_tick (Newest images) = images.tick

tick_same : (after images : Images) → Newest after ≡ Newest images → after.tick ≡ images.tick
unfolding images_tick
tick_same after images e = ap images_tick e

none_open : (cell : Taken) (newest : List ℕ) (round : Option Round) (r : Round) → round ≡ Some r → option_map (with_cell cell newest) round ≡ None → ⊥
none_open cell newest b r e h = search rules

start_tick : {tick : ℕ} {round : Option Round} {r : Round} → IfSome round (λ (some : Round). some.tick ≡ tick) → round ≡ Some r → r.tick ≡ tick
start_tick {tick} {round} {r} h e = (let g : r.tick ≡ tick = subst (λ (o : Option Round). IfSome o (λ (some : Round). some.tick ≡ tick)) e h in g)

-- with no round in work the newest image is of the start's tick
caught : (first : List ℕ) (ticks : List (List Action)) (acknowledged from : ℕ) (old new : Content) (given : ImageAnswer)
    (images : Images) (start : Start) (next : ImageFiles) (after : Images) → StepsImages Takes (length first) (Newest images) given next old new → next ≡ Newest after
    → after.round ≡ None → IsStarting first ticks acknowledged images from start → (images.round ≡ None → images.tick ≡ start.tick) → after.tick ≡ start.tick
caught first ticks acknowledged from old new image_answer.Idle images start next after s e none f h = tick_same after images (sym e ∙ s.1) ∙ h (sym (ap round_in (sym e ∙ s.1)) ∙ none)
caught first ticks acknowledged from old new image_answer.Working images start next after s e none f h = elim s.2 [
  | inl same ↦ tick_same after images (sym e ∙ same.0) ∙ h (sym (ap round_in (sym e ∙ same.0)) ∙ none)
  | inr cell ↦ absurd (none_open cell.0 images.words images.round s.0 s.1 (sym (ap round_in (sym e ∙ cell.2)) ∙ none))
]
caught first ticks acknowledged from old new (image_answer.Opened tick) images start next after s e none f h =
    tick_same
    after (record { slot = other_slot images.slot; tick = s.0.tick; words = s.0.taken; before = Open images.tick images.words; round = None }) (sym e ∙ s.4) ∙ start_tick f.start_follows.round s.1
caught first ticks acknowledged from old new image_answer.Down images start next after s e none f h = tick_same after images (sym e ∙ s.2) ∙ h (sym (ap round_in (sym e ∙ s.2)) ∙ none)

-- until the first image is opened nothing is acknowledged
still_none : (cells : ℕ) (old new : Content) (acknowledged : ℕ) (given : ImageAnswer) (images : FirstImages) (next : ImageFiles)
    (after : FirstImages) → StepsImages Takes cells (NoneYet images) given next old new → next ≡ NoneYet after
    → acknowledged_opened acknowledged given ≡ acknowledged
still_none cells old new acknowledged b images next after s e = search (rules, is_newest)

module _ (kept_by : EventsKeep Takes) (started_by : StartEventsKeep Takes) (first : List ℕ) (ticks : List (List Action)) (acknowledged : ℕ) where
  image_phase : (images : ImageFiles) (journal : Journal) (queue : List Record) (given : ImageAnswer) (next : ImageFiles)
      (old new : Content) → StepsImages Takes (length first) images given next old new
      → StoreFollowsImages first ticks new next → HasPhase first ticks acknowledged images journal queue → HasPhase first ticks (acknowledged_opened acknowledged given) next journal queue
  image_phase (NoneYet images) (Writing logs) queue given next old new s store phase = absurd phase
  image_phase (Newest images) (Writing logs) queue given next old new s store phase =
      let round = round_follows first ticks images given next old new s phase.images_follow.round store in
      let k = kept_by.image_step first ticks acknowledged images logs queue given next old new phase s round in
      subst (λ i. HasPhase first ticks (acknowledged_opened acknowledged given) i (Writing logs) queue) (sym k.1) k.2
  image_phase (Newest images) (InStart start) queue given next old new s store phase =
      let p = phase.0 in
      let round = round_follows first ticks images given next old new s p.starting.images_follow.round store in
      let k = started_by.image_step first ticks acknowledged images p.from start given next old new p.starting s round in
      let on : IsInStart first ticks (acknowledged_opened acknowledged given) k.0 start = record {
        from = p.from;
        starting = k.2;
        caught_up = λ none. caught first ticks acknowledged p.from old new given images start next k.0 s k.1 none p.starting p.caught_up;
      } in
      subst (λ i. HasPhase first ticks (acknowledged_opened acknowledged given) i (InStart start) queue) (sym k.1) (on, phase.1)
  image_phase (NoneYet images) (InStart start) queue given next old new s store phase =
      let p = phase.0 in
      let begins = first_round_follows first images given next old new s p.follows.round (subst (λ t. StoreFollowsImages first t new next) p.no_ticks store) in
      elim (started_by.first_image_step first images start given next old new p.follows s begins) [
        | inl k ↦ subst (λ i. HasPhase first ticks (acknowledged_opened acknowledged given) i (InStart start) queue) (sym k.1) (
          record {
            no_ticks = p.no_ticks;
            none_acknowledged = still_none (length first) old new acknowledged given images next k.0 s k.1 ∙ p.none_acknowledged;
            follows = k.2;
            in_work = still_in_work (length first) old new given images next k.0 s k.1 p.in_work;
          },
          phase.1,
        )
        | inr k ↦ subst (λ i. HasPhase first ticks (acknowledged_opened acknowledged given) i (InStart start) queue) (sym k.1) (
          record {
            from = 0;
            starting =
                subst (λ t. IsStarting first t (acknowledged_opened acknowledged given) k.0 0 start) (sym p.no_ticks)
                (subst (λ a. IsStarting first [] (acknowledged_opened a given) k.0 0 start) (sym p.none_acknowledged) k.4);
            caught_up = λ none. k.2 ∙ sym p.follows.at_zero;
          },
          phase.1,
        )
      ]

  pub image_step : (images : ImageFiles) (journal : Journal) (queue : List Record) (given : ImageAnswer) (next : ImageFiles)
      (old new : Content) → StepsImages Takes (length first) images given next old new
      → InStep first ticks acknowledged old images journal queue → InStep first ticks (acknowledged_opened acknowledged given) new next journal queue
  image_step images journal queue given next old new s w =
      let store = step_follows first ticks images given next old new s w.store in
      record { store = store; phase = image_phase images journal queue given next old new s store w.phase }

-- ---- a step of the log keeper

abbrev journal_tick : Journal → ℕ
journal_tick (InStart start) = start.tick
journal_tick (Writing logs) = 0

same_start : (a b : Start) → InStart a ≡ InStart b → a.tick ≡ b.tick
same_start a b e = ap journal_tick e

start_same : (start : Start) (left : ℕ) (given : LogAnswer) (next : LogPlace) (after : Start) → StartStep start left given next → next.journal ≡ InStart after → after.tick ≡ start.tick
start_same start left log_answer.Idle next after s e = absurd s
start_same start left log_answer.Working next after s e = elim s [
  | inl more ↦ same_start after (record start { begun = true }) (sym e ∙ ap (λ (p : LogPlace). p.journal) more.1)
  | inr last ↦ absurd (let g : InStart after ≡ Writing (started start.tick) = sym e ∙ ap (λ (p : LogPlace). p.journal) last.1 in cc)
]
start_same start left (log_answer.Acked tick) next after s e = absurd s
start_same start left log_answer.Down next after s e = same_start after (record start { begun = true }) (sym e ∙ ap (λ (p : LogPlace). p.journal) s.1)

start_unacknowledged : (acknowledged : ℕ) (start : Start) (left : ℕ) (given : LogAnswer) (next : LogPlace) → StartStep start left given next → acknowledged_after acknowledged given ≡ acknowledged
start_unacknowledged acknowledged start left b next s = search rules

module _ (kept_by : EventsKeep Takes) (started_by : StartEventsKeep Takes) (first : List ℕ) (ticks : List (List Action)) (acknowledged : ℕ) where
  -- in the start, once the newest image is of its tick
  started_phase : (images : Images) (start : Start) (left : ℕ) (given : LogAnswer) (next : LogPlace) (queue : List Record) → 1 ≤ length first → images.round ≡ None → StartStep start left given next
      → queue ≡ [] → IsInStart first ticks acknowledged images start → HasPhase first ticks (acknowledged_after acknowledged given) (Newest images) next.journal queue
  started_phase images start left given next queue some none s empty p =
      let none_more = start_unacknowledged acknowledged start left given next s in
      elim (started_by.log_step first ticks acknowledged images p.from start left given next some p.starting (p.caught_up none) none s) [
        | inl k ↦ subst (λ j. HasPhase first ticks (acknowledged_after acknowledged given) (Newest images) j queue) (sym k.1) (
          record {
            from = p.from;
            starting = subst (λ a. IsStarting first ticks a images p.from k.0) (sym none_more) k.2;
            caught_up = λ e. p.caught_up e ∙ sym (start_same start left given next k.0 s k.1);
          },
          empty,
        )
        | inr k ↦ subst (λ j. HasPhase first ticks (acknowledged_after acknowledged given) (Newest images) j queue) (sym k.0)
            (subst (λ q. IsKept first ticks (acknowledged_after acknowledged given) images (started start.tick) q) (sym empty)
            (subst (λ a. IsKept first ticks a images (started start.tick) []) (sym none_more) k.1))
      ]

  log_phase : (images : ImageFiles) (journal : Journal) (left : ℕ) (queue : List Record) (given : LogAnswer) (next : LogPlace)
      (queue_left : List Record) → 1 ≤ length first → NoneWaitedFor journal images
      → StepIn journal left queue given next queue_left → HasPhase first ticks acknowledged images journal queue
      → HasPhase first ticks (acknowledged_after acknowledged given) images next.journal queue_left
  log_phase (NoneYet images) (Writing logs) left queue given next queue_left some waits s phase = absurd phase
  log_phase (NoneYet images) (InStart start) left queue given next queue_left some waits s phase =
      absurd (let g : None ≡ Some phase.0.in_work.0 = sym waits ∙ phase.0.in_work.1 in cc)
  log_phase (Newest images) (InStart start) left queue given next queue_left some waits s phase =
      started_phase images start left given next queue_left some waits s.0 (s.1 ∙ phase.1) phase.0
  log_phase (Newest images) (Writing logs) left queue given next queue_left some waits s phase =
      subst (λ (p : LogPlace). HasPhase first ticks (acknowledged_after acknowledged given) (Newest images) p.journal queue_left) (sym s.1)
      (kept_by.log_step first ticks acknowledged images logs queue given s.0 queue_left phase s.2)

  pub log_step : (content : Content) (images : ImageFiles) (place : LogPlace) (queue : List Record) (given : LogAnswer)
      (next : LogPlace) (queue_left : List Record) → 1 ≤ length first → NoneWaitedFor place.journal images
      → JournalStep place queue given next queue_left → InStep first ticks acknowledged content images place.journal queue
      → InStep first ticks (acknowledged_after acknowledged given) content images next.journal queue_left
  log_step content images place queue given next queue_left some waits s w = search (rules, log_phase)

-- ---- a cover

pub cover : EventsKeep Takes → (first : List ℕ) (ticks : List (List Action)) (acknowledged : ℕ) (content : Content)
    (images : Images) (logs : Logs) (queue : List Record) (tick : ℕ) (given : LogAnswer) (left : List Record)
    → tick ≤ images.tick → CoverStep logs queue tick given left → InStep first ticks acknowledged content (Newest images) (Writing logs) queue
    → InStep first ticks (acknowledged_after acknowledged given) content (Newest images) (Writing logs) left
cover kept_by first ticks acknowledged content images logs queue tick given left opened s w =
    record { store = w.store; phase = kept_by.cover first ticks acknowledged images logs queue tick given left w.phase opened s }
