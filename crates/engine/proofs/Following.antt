-- Each operation keeps a world in step with its ticks.
use Rattle.std.proofs.Common.{rules}
use Rattle.std.proofs.Common.{◌≡◌, ℕ, ◌+◌, ◌<◌, ◌≤◌, ◌⊎◌, Bool, false, nat_le, if◌then◌else◌, List, [], ◌∷◌, ◌++◌, length, None, Result, Ok, Err, refl, sym, ap, subst, ◌∙◌}
use Rattle.std.proofs.Common.{arith}
use Rattle.std.proofs.lemmas.Grind.{flat_map-append}
use Rattle.std.proofs.lemmas.List.{length-append, append-nil}
use Rattle.world_actions.specs.declared.action.Action.{Action}
use Rattle.world_actions.specs.declared.refusal.Refusal.{Refusal}
use Rattle.world_actions.specs.declared.refusal.Refusal.TheVariants.{TickFull}
use Rattle.disk_model.specs.declared.disk.Disk.{Ghosts}
use Rattle.world_ticks.specs.declared.tick.TheConstants.{TICK_MAX}
use Rattle.world_ticks.specs.After.{after_actions, after_ticks}
use Rattle.capture_core.specs.Content.{Takes}
use Rattle.image_files.specs.declared.answer.ImageAnswer.{ImageAnswer}
use Rattle.image_files.specs.declared.phase.Phase.TheVariants.{Idle}
use Rattle.image_files.specs.Progress.{begun_keeper, newest_tick}
use Rattle.image_files.specs.Images.{Images, ImageFiles, Newest, StepsImages, newest_in, round_in, with_round}
use Rattle.action_log.specs.declared.answer.LogAnswer.{LogAnswer}
use Rattle.action_log.specs.declared.record.Record.{Record}
use Rattle.action_log.specs.declared.record.Record.TheVariants as records
use Rattle.action_log.specs.Logs.{Logs, Journal, Writing, LogPlace}
use Rattle.action_log.specs.LogSteps.{StepIn, JournalStep}
use Rattle.recovery.specs.Events.{IsKept, ReceiptIs, acknowledged_opened, acknowledged_after}
use Rattle.restart.specs.InStep.{InStep, NoneWaitedFor}
use Rattle.engine.specs.World.{World, HasImages, HasLog}
use Rattle.engine.specs.Follows.{Follows, NoneInStart}
use Rattle.engine.specs.Steps.{DoesAction, DoesActions, EndsTick, BeginsRound, CoversQueue}
use Rattle.engine.specs.Laws.{EventLaws, KeeperLaws}

-- ---- the acknowledged count

-- a step acknowledges no less than before
opened_more : (fewer count : ℕ) (given : ImageAnswer) → fewer ≤ count → acknowledged_opened fewer given ≤ acknowledged_opened count given
opened_more fewer count given less = search rules

logged_more : (fewer count : ℕ) (given : LogAnswer) → fewer ≤ count → acknowledged_after fewer given ≤ acknowledged_after count given
logged_more fewer count given less = search rules

pub opened_counts : (acknowledged : ℕ) (given : ImageAnswer) → acknowledged ≤ acknowledged_opened acknowledged given
opened_counts acknowledged given = search rules

pub logged_counts : (acknowledged : ℕ) (given : LogAnswer) → acknowledged ≤ acknowledged_after acknowledged given
logged_counts acknowledged given = search rules

-- ---- the running tick

pub empty_rests : (journal : Journal) (running : List Action) → running ≡ [] → NoneInStart journal running
empty_rests journal running e = search rules

log_rests : (running : List Action) (journal : Journal) (left : ℕ) (queue : List Record) (given : LogAnswer) (next : LogPlace)
    (rest : List Record) → StepIn journal left queue given next rest → NoneInStart journal running → NoneInStart next.journal running
log_rests running journal left queue given next rest s at_rest = search (rules, empty_rests)

pub ok_injective : (v w : List ℕ) → ◌≡◌ {A = Result (List ℕ) Refusal} (Ok v) (Ok w) → v ≡ w
ok_injective v w e = cc

not_full : (full : Bool) (r : Result (List ℕ) Refusal) (after : List ℕ) → (if full then Err TickFull else r) ≡ Ok after → r ≡ Ok after
not_full full r after e = search rules

more_actions : EventLaws → (last live after : List ℕ) (running actions : List Action) → after_actions last running ≡ Ok live
    → after_actions live actions ≡ Ok after → after_actions last (running ++ actions) ≡ Ok after
more_actions laws last live after running actions e h = search rules

world_ended : EventLaws → (first : List ℕ) (ticks : List (List Action)) (running : List Action) (last live : List ℕ)
    → after_ticks first ticks ≡ Ok last → after_actions last running ≡ Ok live → after_ticks first (ticks ++ running ∷ []) ≡ Ok live
world_ended laws first ticks running last live e h = search (rules, flat_map-append, append-nil)

pub no_action : (last live : List ℕ) (running : List Action) → running ≡ [] → after_actions last running ≡ Ok live → last ≡ live
no_action last live running none e = ok_injective last live (subst (λ r. after_actions last r ≡ Ok live) none e)

module _ {D : Type 0} (disk : Ghosts D) where
  -- fewer ticks are acknowledged too
  pub fewer_follow : (world : World D) (first : List ℕ) (ticks : List (List Action)) (acknowledged few : ℕ) → few ≤ acknowledged
      → Follows disk world first ticks acknowledged → Follows disk world first ticks few
  fewer_follow world first ticks acknowledged few fewer f = search rules

  -- a world follows these ticks, by these images and this log
  pub record Keeps (world : World D) (first : List ℕ) (ticks : List (List Action)) (acknowledged : ℕ) (images : ImageFiles) (place : LogPlace) : Type 0 where
    pub follows : Follows disk world first ticks acknowledged
    pub images_are : follows.images ≡ images
    pub place_is : follows.place ≡ place

  -- ---- after the start

  -- there is an image, and the log is written to
  pub record HasStarted (world : World D) (first : List ℕ) (ticks : List (List Action)) (count : ℕ) (images : ImageFiles) (journal : Journal) : Type 0 where
    pub newest : Images
    pub logs : Logs
    pub is_newest : images ≡ Newest newest
    pub is_writing : journal ≡ Writing logs
    pub in_step : InStep first ticks count world.content (Newest newest) (Writing logs) world.queue

  started_by : (world : World D) (first : List ℕ) (ticks : List (List Action)) (count : ℕ) (images : ImageFiles) (journal : Journal) (left : ℕ) → world.log.starting ≡ false
      → HasLog disk world (record { journal = journal; left = left }) → InStep first ticks count world.content images journal world.queue → HasStarted world first ticks count images journal
  started_by world first ticks count images journal left over stands w = search rules

  pub has_started : (world : World D) (first : List ℕ) (ticks : List (List Action)) (acknowledged : ℕ) (f : Follows disk world first ticks acknowledged)
      → world.log.starting ≡ false → HasStarted world first ticks f.count f.images f.place.journal
  has_started world first ticks acknowledged f over = started_by world first ticks f.count f.images f.place.journal f.place.left over f.has_log f.in_step

  -- ---- the running tick

  -- an action is done as a list of one
  pub action_does : (old : World D) (action : Action) (new : World D) → DoesAction old action new → DoesActions old (action ∷ []) new
  action_does old action new d = search (rules, not_full, nat_le)

  pub actions_follow : EventLaws → (old new : World D) (actions : List Action) (first : List ℕ) (ticks : List (List Action)) (acknowledged : ℕ) → old.log.starting ≡ false
      → DoesActions old actions new → (f : Follows disk old first ticks acknowledged) → Keeps new first ticks acknowledged f.images f.place
  actions_follow laws old new actions first ticks acknowledged over d f =
      let s = has_started old first ticks acknowledged f over in
      let next : World D = record old { content = new.content; running = old.running ++ actions } in
      let is : Follows disk next first ticks acknowledged = record {
        images = f.images;
        place = f.place;
        has_images = f.has_images;
        has_log = f.has_log;
        cells = f.cells;
        last = f.last;
        after_ended = f.after_ended;
        live = more_actions laws f.last old.content.live new.content.live old.running actions f.live d.done;
        at_rest = subst (λ j. NoneInStart j (old.running ++ actions)) (sym s.is_writing) tt;
        ended = f.ended;
        count = f.count;
        at_least = f.at_least;
        in_step = record { store = laws.goes_on.writes first ticks old.content new.content f.images d.left d.covers f.in_step.store; phase = f.in_step.phase };
      } in
      subst (λ w. Keeps w first ticks acknowledged f.images f.place) (sym d.rest) (record { follows = is; images_are = refl; place_is = refl })

  pub end_follows : EventLaws → (old new : World D) (first : List ℕ) (ticks : List (List Action)) (acknowledged : ℕ) → old.log.starting ≡ false → EndsTick old new
      → (f : Follows disk old first ticks acknowledged) → Keeps new first (ticks ++ old.running ∷ []) acknowledged f.images f.place
  end_follows laws old new first ticks acknowledged over d f =
      let tick = d.0 in
      let queue = old.queue ++ records.Tick tick ∷ [] in
      let more = ticks ++ old.running ∷ [] in
      let next : World D = record old { running = []; ended = old.ended + 1; since = old.since + 1; queue = queue } in
      let s = has_started old first ticks acknowledged f over in
      let kept = s.in_step.phase in
      let lasts : kept.last ≡ f.last = ok_injective kept.last f.last (sym kept.accepted ∙ f.after_ended) in
      let goes : after_actions kept.last tick.list ≡ Ok old.content.live = ap (λ w. after_actions w tick.list) lasts ∙ ap (after_actions f.last) d.1 ∙ f.live in
      let in_step : InStep first more f.count old.content (Newest s.newest) (Writing s.logs) queue = record {
        store = laws.goes_on.ticks first ticks (old.running ∷ []) old.content (Newest s.newest) s.in_step.store;
        phase = subst (λ t. IsKept first (ticks ++ t ∷ []) f.count s.newest s.logs queue) d.1 (laws.keeps.tick_ends first ticks f.count s.newest s.logs old.queue kept tick old.content.live goes);
      } in
      let is : Follows disk next first more acknowledged = record {
        images = f.images;
        place = f.place;
        has_images = f.has_images;
        has_log = f.has_log;
        cells = f.cells;
        last = old.content.live;
        after_ended = world_ended laws first ticks old.running f.last old.content.live f.after_ended f.live;
        live = refl;
        at_rest = empty_rests f.place.journal [] refl;
        ended = omega (arith, f.ended, length-append ticks (old.running ∷ []));
        count = f.count;
        at_least = f.at_least;
        in_step = search rules;
      } in
      subst (λ w. Keeps w first more acknowledged f.images f.place) (sym d.2) (record { follows = is; images_are = refl; place_is = refl })

  -- ---- a mark

  -- between two ticks, with no round in work, and with ticks that the newest image lacks
  pub mark_follows : EventLaws → KeeperLaws disk → (old new : World D) (first : List ℕ) (ticks : List (List Action)) (acknowledged : ℕ) → old.log.starting ≡ false → old.running ≡ []
      → old.images.phase ≡ Idle → (old.ended ≡ newest_tick old.images.newest → ⊥) → old.images.cells ≡ length old.content.live → old.ended ≤ TICK_MAX → BeginsRound old new
      → (f : Follows disk old first ticks acknowledged) → Keeps new first ticks acknowledged (with_round old.ended f.images) f.place
  mark_follows laws keepers old new first ticks acknowledged over none idle news cells most d f =
      let s = has_started old first ticks acknowledged f over in
      let queue = old.queue ++ records.Switch old.ended ∷ [] in
      let next : World D = record old { content = new.content; since = 0; images = begun_keeper old.ended old.images; queue = queue } in
      let no_round : s.newest.round ≡ None = ap round_in (sym s.is_newest) ∙ keepers.idle old.images f.images old.files.image_a old.files.image_b f.has_images idle in
      let newest : newest_tick old.images.newest ≡ s.newest.tick =
      ap newest_tick (keepers.newest old.images f.images old.files.image_a old.files.image_b f.has_images ∙ ap newest_in s.is_newest) in
      let within : s.newest.tick ≤ length ticks = s.in_step.phase.images_follow.newest.ended in
      let differs : (old.ended ≡ s.newest.tick) → ⊥ = λ e. news (e ∙ sym newest) in
      let above : s.newest.tick < length ticks = omega (arith, within, f.ended, differs) in
      let same : f.last ≡ old.content.live = no_action f.last old.content.live old.running none f.live in
      let on : InStep first ticks f.count new.content (with_round old.ended (Newest s.newest)) (Writing s.logs) queue =
      subst (λ n. InStep first ticks f.count new.content (with_round n (Newest s.newest)) (Writing s.logs) (old.queue ++ records.Switch n ∷ [])) (sym f.ended)
      (laws.goes_on.mark first ticks f.count s.newest s.logs old.queue old.content new.content no_round above (f.after_ended ∙ ap (λ w. Ok w) same) (sym cells ∙ f.cells) d.0 s.in_step) in
      let is : Follows disk next first ticks acknowledged = record {
        images = with_round old.ended f.images;
        place = f.place;
        has_images = keepers.begun old.images old.ended f.images old.files.image_a old.files.image_b idle most f.has_images;
        has_log = f.has_log;
        cells = f.cells;
        last = f.last;
        after_ended = f.after_ended;
        live = f.live ∙ ap (λ w. Ok w) (sym d.0.live);
        at_rest = f.at_rest;
        ended = f.ended;
        count = f.count;
        at_least = f.at_least;
        in_step = subst (λ i. InStep first ticks f.count new.content (with_round old.ended i) f.place.journal queue) (sym s.is_newest)
            (subst (λ j. InStep first ticks f.count new.content (with_round old.ended (Newest s.newest)) j queue) (sym s.is_writing) on);
      } in
      subst (λ w. Keeps w first ticks acknowledged (with_round old.ended f.images) f.place) (sym d.1) (record { follows = is; images_are = refl; place_is = refl })

  -- ---- the steps of the keepers

  -- the images after a step, and the ticks that are followed; an image that is opened acknowledges
  pub record AfterImages (old : World D) (given : ImageAnswer) (new : World D) (first : List ℕ) (ticks : List (List Action)) (acknowledged : ℕ)
      (f : Follows disk old first ticks acknowledged) : Type 0 where
    pub follows : Follows disk new first ticks (acknowledged_opened acknowledged given)
    pub steps : StepsImages Takes (length first) f.images given follows.images old.content new.content
    pub place : follows.place ≡ f.place

  -- the log after a step, whose receipt acknowledges
  pub record AfterLog (old : World D) (given : LogAnswer) (new : World D) (first : List ℕ) (ticks : List (List Action)) (acknowledged : ℕ)
      (f : Follows disk old first ticks acknowledged) : Type 0 where
    pub follows : Follows disk new first ticks (acknowledged_after acknowledged given)
    pub steps : JournalStep f.place old.queue given follows.place new.queue
    pub images : follows.images ≡ f.images

  -- the log waits for nothing after the start, or with no round in work
  waits_not : (world : World D) (journal : Journal) (left : ℕ) (images : ImageFiles) → HasLog disk world (record { journal = journal; left = left })
      → (world.log.starting ≡ false) ⊎ (round_in images ≡ None) → NoneWaitedFor journal images
  waits_not world journal left images stands h = search rules

  -- the tick of an open image is covered
  pub cover_follows : EventLaws → KeeperLaws disk → (tick : ℕ) (old : World D) (given : LogAnswer) (new : World D) (first : List ℕ) (ticks : List (List Action)) (acknowledged : ℕ)
      → old.log.starting ≡ false → tick ≤ newest_tick old.images.newest → CoversQueue tick old given new → (f : Follows disk old first ticks acknowledged)
      → Keeps new first ticks (acknowledged_after acknowledged given) f.images f.place × ReceiptIs given ticks new.queue
  cover_follows laws keepers tick old given new first ticks acknowledged over opened d f =
      let s = has_started old first ticks acknowledged f over in
      let next : World D = record old { queue = new.queue } in
      let newest : newest_tick old.images.newest ≡ s.newest.tick =
      ap newest_tick (keepers.newest old.images f.images old.files.image_a old.files.image_b f.has_images ∙ ap newest_in s.is_newest) in
      let has_log = subst (λ j. HasLog disk old (record { journal = j; left = f.place.left })) s.is_writing f.has_log in
      let step = d.step s.logs (λ ready. let r = keepers.ready old.log old.files.log_a old.files.log_b s.logs f.place.left has_log ready in (r.0, r.1)) in
      let on = laws.goes_on.cover first ticks f.count old.content s.newest s.logs old.queue tick given new.queue (omega (arith, opened, newest)) step s.in_step in
      let is : Follows disk next first ticks (acknowledged_after acknowledged given) = record {
        images = f.images;
        place = f.place;
        has_images = f.has_images;
        has_log = f.has_log;
        cells = f.cells;
        last = f.last;
        after_ended = f.after_ended;
        live = f.live;
        at_rest = f.at_rest;
        ended = f.ended;
        count = acknowledged_after f.count given;
        at_least = logged_more acknowledged f.count given f.at_least;
        in_step = search rules;
      } in (
        subst (λ w. Keeps w first ticks (acknowledged_after acknowledged given) f.images f.place) (sym d.rest) (record { follows = is; images_are = refl; place_is = refl }),
        laws.keeps.cover_receipt first ticks f.count s.newest s.logs old.queue tick given new.queue s.in_step.phase step,
      )

  pub image_follows : EventLaws → (old new : World D) (given : ImageAnswer) (first : List ℕ) (ticks : List (List Action)) (acknowledged : ℕ)
      → new ≡ record old { content = new.content; images = new.images; files = record old.files { image_a = new.files.image_a; image_b = new.files.image_b } }
      → ((images : ImageFiles) → HasImages disk old images → (next : ImageFiles) × HasImages disk new next × StepsImages Takes old.images.cells images given next old.content new.content)
      → new.images.cells ≡ old.images.cells → new.content.live ≡ old.content.live
      → (f : Follows disk old first ticks acknowledged) → AfterImages old given new first ticks acknowledged f
  image_follows laws old new given first ticks acknowledged rest stands cells live f =
      let s = stands f.images f.has_images in
      let steps : StepsImages Takes (length first) f.images given s.0 old.content new.content = subst (λ n. StepsImages Takes n f.images given s.0 old.content new.content) f.cells s.2 in
      subst (λ w. AfterImages old given w first ticks acknowledged f) (sym rest) (record {
        follows = record {
          images = s.0;
          place = f.place;
          has_images = s.1;
          has_log = f.has_log;
          cells = cells ∙ f.cells;
          last = f.last;
          after_ended = f.after_ended;
          live = f.live ∙ ap (λ w. Ok w) (sym live);
          at_rest = f.at_rest;
          ended = f.ended;
          count = acknowledged_opened f.count given;
          at_least = opened_more acknowledged f.count given f.at_least;
          in_step = laws.goes_on.image_step first ticks f.count f.images f.place.journal old.queue given s.0 old.content new.content steps f.in_step;
        };
        steps = steps;
        place = refl;
      })

  pub log_follows : EventLaws → (old new : World D) (given : LogAnswer) (first : List ℕ) (ticks : List (List Action)) (acknowledged : ℕ)
      → new ≡ record old { queue = new.queue; log = new.log; files = record old.files { log_a = new.files.log_a; log_b = new.files.log_b } }
      → ((place : LogPlace) → HasLog disk old place → (next : LogPlace) × HasLog disk new next × JournalStep place old.queue given next new.queue) → (f : Follows disk old first ticks acknowledged)
      → (old.log.starting ≡ false) ⊎ (round_in f.images ≡ None) → AfterLog old given new first ticks acknowledged f
  log_follows laws old new given first ticks acknowledged rest stands f turn =
      let s = stands f.place f.has_log in
      subst (λ w. AfterLog old given w first ticks acknowledged f) (sym rest) (record {
        follows = record {
          images = f.images;
          place = s.0;
          has_images = f.has_images;
          has_log = s.1;
          cells = f.cells;
          last = f.last;
          after_ended = f.after_ended;
          live = f.live;
          at_rest = log_rests old.running f.place.journal f.place.left old.queue given s.0 new.queue s.2 f.at_rest;
          ended = f.ended;
          count = acknowledged_after f.count given;
          at_least = logged_more acknowledged f.count given f.at_least;
          in_step = laws.goes_on.log_step first ticks f.count old.content f.images f.place old.queue given s.0 new.queue (omega (arith, f.cells, f.has_images.fits.in_order.some))
              (waits_not old f.place.journal f.place.left f.images f.has_log turn) s.2 f.in_step;
        };
        steps = s.2;
        images = refl;
      })
