-- Steps of a keeper one after another.
use Rattle.std.proofs.Common.{rules}
use Rattle.std.proofs.Common.{◌≡◌, ◌⊎◌, inl, inr, ◌<◌, Bool, true, false, IsTrue, List, [], ◌∷◌, ◌++◌, length, refl, sym, ap, subst, ◌∙◌}
use Rattle.file_format.specs.declared.slot.Slot.TheVariants.{A}
use Rattle.disk_model.specs.Disk.{OneCalledAtMostOnce}
use Rattle.disk_model.specs.declared.disk.Disk.{Ghosts}
use Rattle.disk_model.specs.FourFiles.{EachFile, StaysFilled, CallsFill}
use Rattle.image_files.specs.declared.answer.ImageAnswer.{ImageAnswer}
use Rattle.image_files.specs.declared.phase.Phase.TheVariants.{Idle}
use Rattle.image_files.specs.Progress.{left_of, target_of}
use Rattle.action_log.specs.declared.answer.LogAnswer.{LogAnswer}
use Rattle.action_log.specs.declared.phase.Phase.TheVariants.{Ready}
use Rattle.action_log.specs.declared.record.Record.{Record}
use Rattle.action_log.specs.declared.progress.Progress.{Progress}
use Rattle.action_log.specs.Progress.{work_of, taken}
use Rattle.recovery.specs.Events.{acknowledged_opened, acknowledged_after}
use Rattle.engine.specs.World.{World}
use Rattle.engine.specs.Steps.{TakesImageStep, TakesLogStep}
use Rattle.engine.specs.Runs.{IsFirst, RunsImages, RunsLog}
use Rattle.engine.specs.Laws.{EventLaws, KeeperLaws}
use Rattle.disk_model.proofs.FilledLemmas.{one_call_fills, same_filled, each_filled}
use Rattle.restart.proofs.Calling.{image_calls_one, log_calls_one}
use Rattle.engine.proofs.Rounds.{tick_step}
use Rattle.engine.proofs.Faults.{image_faults, log_faults}
use Rattle.engine.proofs.Following.{fewer_follow, image_follows, log_follows, opened_counts, logged_counts}

none_behind : (front left : List Record) → [] ≡ front ++ left → left ≡ []
none_behind [] left e = sym e
none_behind (first ∷ front) left e = absurd (let h = ap length e in cc)

-- a step with work to do, of a log with nothing queued, is one of its start
pub first_step : (keeper next : Progress) (queue left : List Record) → IsFirst keeper queue → 0 < work_of keeper queue → queue ≡ taken keeper queue ++ left
    → (keeper.starting ≡ true → (next.starting ≡ true) ⊎ ((next.current ≡ A) × (next.phase ≡ Ready))) → IsFirst next left
first_step keeper next queue left f some front first = search (rules, none_behind)

module _ {D : Type 0} (disk : Ghosts D) where
  -- a step of the fields of an engine is one of its world
  pub image_step_at : (was old : World D) (given : ImageAnswer) (new : World D) → was ≡ old → TakesImageStep disk was given new → TakesImageStep disk old given new
  image_step_at was old given new same step = subst (λ world. TakesImageStep disk world given new) same step

  pub log_step_at : (was old : World D) (given : LogAnswer) (new : World D) → was ≡ old → TakesLogStep disk was given new → TakesLogStep disk old given new
  log_step_at was old given new same step = subst (λ world. TakesLogStep disk world given new) same step

  -- ---- the calls of a step

  pub image_step_calls : (old : World D) (given : ImageAnswer) (new : World D) → TakesImageStep disk old given new
      → OneCalledAtMostOnce disk.called old.files.image_a new.files.image_a old.files.image_b new.files.image_b
  image_step_calls old given new d = image_calls_one disk.called (target_of old.images.newest) old.images.phase old.files.image_a new.files.image_a old.files.image_b new.files.image_b d.calls

  log_calls_by : (down : Bool) (old : World D) (given : LogAnswer) (new : World D) → old.log.down ≡ down → TakesLogStep disk old given new
      → OneCalledAtMostOnce disk.called old.files.log_a new.files.log_a old.files.log_b new.files.log_b
  log_calls_by false old given new up d = log_calls_one disk.called old.log.current old.log.phase old.queue old.files.log_a new.files.log_a old.files.log_b new.files.log_b (d.calls up)
  log_calls_by true old given new down d = (let rests = d.rests (inr down) in inl (inl rests.2, rests.3))

  pub log_step_calls : (old : World D) (given : LogAnswer) (new : World D) → TakesLogStep disk old given new
      → OneCalledAtMostOnce disk.called old.files.log_a new.files.log_a old.files.log_b new.files.log_b
  log_step_calls old given new = log_calls_by old.log.down old given new refl

  -- ---- the image keeper

  images_filled : CallsFill disk → IsTrue disk.honest → (old : World D) (given : ImageAnswer) (new : World D) → TakesImageStep disk old given new → EachFile old.files new.files (StaysFilled disk)
  images_filled calls sure old given new d =
      let both = one_call_fills disk calls sure old.files.image_a new.files.image_a old.files.image_b new.files.image_b (image_step_calls old given new d) in
      let same = ap (λ (w : World D). w.files) d.rest in
      record { image_a = both.0; image_b = both.1; log_a = same_filled disk (ap (λ f. f.log_a) same); log_b = same_filled disk (ap (λ f. f.log_b) same) }

  pub image_then : EventLaws → CallsFill disk → (old mid : World D) (given : ImageAnswer) (new : World D) → 0 < left_of mid.images
      → RunsImages disk old mid → TakesImageStep disk mid given new → RunsImages disk old new
  image_then laws calls old mid given new some r d = record {
    rest = d.rest ∙ (λ i. record (r.rest i) { content = new.content; images = new.images; files = record (r.rest i).files { image_a = new.files.image_a; image_b = new.files.image_b } });
    cells = d.cells ∙ r.cells;
    live = d.live ∙ r.live;
    ticks = tick_step given old.images mid.images new.images d.idle d.goes_on d.down d.ended some r.ticks;
    counts = search (rules, image_faults);
    follows = λ sure first ticks acknowledged f.
        (let on = image_follows disk laws mid new given first ticks acknowledged d.rest (d.stands sure) d.cells d.live (r.follows sure first ticks acknowledged f) in
        fewer_follow disk new first ticks (acknowledged_opened acknowledged given) acknowledged (opened_counts acknowledged given) on.follows);
    filled = λ sure. each_filled disk old.files mid.files new.files (r.filled sure) (images_filled calls sure mid given new d);
  }

  -- ---- the log keeper

  -- its turn stays its turn
  still_turn : (old mid : World D) → RunsLog disk old mid → (old.log.starting ≡ false) ⊎ (old.images.phase ≡ Idle) → (mid.log.starting ≡ false) ⊎ (mid.images.phase ≡ Idle)
  still_turn old mid r e = search rules

  logs_filled : CallsFill disk → IsTrue disk.honest → (old : World D) (given : LogAnswer) (new : World D) → TakesLogStep disk old given new → EachFile old.files new.files (StaysFilled disk)
  logs_filled calls sure old given new d =
      let both = one_call_fills disk calls sure old.files.log_a new.files.log_a old.files.log_b new.files.log_b (log_step_calls old given new d) in
      let same = ap (λ (w : World D). w.files) d.rest in
      record { image_a = same_filled disk (ap (λ f. f.image_a) same); image_b = same_filled disk (ap (λ f. f.image_b) same); log_a = both.0; log_b = both.1 }

  pub log_then : EventLaws → KeeperLaws disk → CallsFill disk → (old mid : World D) (given : LogAnswer) (new : World D) → 0 < work_of mid.log mid.queue
      → RunsLog disk old mid → TakesLogStep disk mid given new → RunsLog disk old new
  log_then laws keepers calls old mid given new some r d = record {
    rest = d.rest ∙ (λ i. record (r.rest i) { queue = new.queue; log = new.log; files = record (r.rest i).files { log_a = new.files.log_a; log_b = new.files.log_b } });
    started = λ over. d.started (r.started over);
    first = λ starting none. first_step mid.log new.log mid.queue new.queue (r.first starting none) some d.front d.first;
    counts = search (rules, log_faults);
    follows = λ sure turn first ticks acknowledged f.
        let now = r.follows sure turn first ticks acknowledged f in
        let on = log_follows disk laws mid new given first ticks acknowledged d.rest (d.stands sure) now (search (rules, still_turn)) in
        fewer_follow disk new first ticks (acknowledged_after acknowledged given) acknowledged (logged_counts acknowledged given) on.follows;
    filled = λ sure. each_filled disk old.files mid.files new.files (r.filled sure) (logs_filled calls sure mid given new d);
  }
