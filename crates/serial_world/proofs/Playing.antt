-- Batches and checkpoints keep a world at rest, and in step with its ticks.
use Rattle.std.proofs.Common.{◌≡◌, ◌⊎◌, ℕ, ◌+◌, Bool, inl, inr, List, [], ◌∷◌, ◌++◌, true, false, Option, Some, None, is_some, if◌then◌else◌, sym, ap, subst, ◌∙◌}
use Rattle.std.specs.Prelude.{IsTrue, IfNone, IfSome}
use Rattle.world_actions.specs.declared.action.Action.{Action}
use Rattle.world_actions.specs.declared.refusal.Refusal.{Refusal}
use Rattle.world_actions.specs.declared.refusal.Refusal.TheVariants.{Starting}
use Rattle.disk_model.specs.Disk.{Grew}
use Rattle.disk_model.specs.declared.disk.Disk.{Ghosts}
use Rattle.disk_model.specs.declared.four_files.FourFiles.{FourFiles}
use Rattle.file_format.specs.declared.slot.Slot.{Slot}
use Rattle.file_format.specs.Slot.{in_slot}
use Rattle.image_files.specs.declared.phase.Phase.TheVariants.{Idle, Down, Closing, Header}
use Rattle.image_files.specs.Image.{image_of, Open}
use Rattle.image_files.specs.Images.{ImageFiles, NoneYet, Newest, ImageFilesAre, newest_in}
use Rattle.image_files.specs.Progress.{Progress as ImageProgress, begun_keeper, newest_tick}
use Rattle.action_log.specs.declared.progress.Progress.{Progress as LogProgress}
use Rattle.action_log.specs.Progress.{work_of}
use Rattle.engine.specs.World.{World, IsAtRest}
use Rattle.engine.specs.Follows.{Follows}
use Rattle.engine.specs.Steps.{DoesActions, EndsTick, BeginsRound}
use Rattle.engine.specs.Runs.{RunsImages, RunsLog}
use Rattle.engine.specs.Laws.{EventLaws, KeeperLaws}
use Rattle.engine.proofs.Following.{has_started, actions_follow, end_follows}
use Rattle.serial_world.specs.Runs.{HasImageOf}

-- the file of the newest image has it, whatever a crash leaves
image_in : (cells : ℕ) (images : ImageFiles) (image_a image_b : List ℕ → Type 0) (slot : Slot) (tick : ℕ) → newest_in images ≡ Some (slot, tick) → ImageFilesAre cells images image_a image_b
    → (at : Slot) × (words : List ℕ) × ((left : List ℕ) → in_slot at image_a image_b left → image_of left ≡ Open tick words)
image_in cells (NoneYet images) image_a image_b slot tick e are = absurd (let h = e in cc)
image_in cells (Newest images) image_a image_b slot tick e are =
    let same : images.tick ≡ tick = ap tick_in e in
    (images.slot, images.words, λ left h. are.newest left h ∙ ap (λ n. Open n images.words) same)
  where
    tick_in : Option (Slot × ℕ) → ℕ
    tick_in None = 0
    tick_in (Some image) = image.1

-- ---- refusals

-- an action is allowed, in a world that has started
pub tick_allowed : (starting : Bool) (refusal : Option Refusal) → starting ≡ false → (if starting then Some Starting else refusal) ≡ None → refusal ≡ None
tick_allowed true refusal over none = absurd (let e = over in cc)
tick_allowed false refusal over none = none

pub by_none : (refusal : Option Refusal) (P : Type 0) → is_some refusal ≡ false → IfNone refusal P → P
by_none None P is holds = holds
by_none (Some why) P is holds = absurd (let e = is in cc)

pub by_some : (refusal : Option Refusal) (P : Type 0) → is_some refusal ≡ true → IfSome refusal (λ why. P) → P
by_some None P is holds = absurd (let e = is in cc)
by_some (Some why) P is holds = holds

-- ---- a round that began

begun_by : (shut : Bool) → (if shut then Header else Closing) ≡ Idle → ⊥
begun_by true e = absurd (let h = e in cc)
begun_by false e = absurd (let h = e in cc)

-- the round is in work
pub begun_works : (tick : ℕ) (keeper : ImageProgress) → (begun_keeper tick keeper).phase ≡ Idle → ⊥
begun_works tick keeper e = begun_by keeper.target_shut e

-- ---- the world

module _ {D : Type 0} (disk : Ghosts D) where
  -- a world at rest played actions as one tick, and wrote its log
  pub record Logged (old played logged : World D) (actions : List Action) : Type 0 where
    pub rest : IsAtRest logged
    pub ended : logged.ended ≡ old.ended + 1
    pub since : logged.since ≡ old.since + 1
    pub cells : logged.images.cells ≡ old.images.cells
    pub words : logged.content.live ≡ played.content.live
    pub cause : old.log.down ≡ false → logged.log.down ≡ true
        → Grew (disk.faults old.files.log_a) (disk.faults logged.files.log_a) ⊎ Grew (disk.faults old.files.log_b) (disk.faults logged.files.log_b)
    pub follows : IsTrue disk.honest → (first : List ℕ) (ticks : List (List Action)) (acknowledged : ℕ) → Follows disk old first ticks acknowledged
        → Follows disk logged first (ticks ++ actions ∷ []) acknowledged

  pub logged_from : EventLaws → (old played ended logged : World D) (actions : List Action) → IsAtRest old → DoesActions old actions played → EndsTick played ended
      → RunsLog disk ended logged → (logged.log.down ≡ true) ⊎ (work_of logged.log logged.queue ≡ 0) → Logged old played logged actions
  logged_from laws old played ended logged actions r d e w rests =
      let over : played.log.starting ≡ false = ap (λ (w : World D). w.log.starting) d.rest ∙ r.started in
      let still : ended.log.starting ≡ false = ap (λ (w : World D). w.log.starting) e.2 ∙ over in
      let running : played.running ≡ actions = ap (λ (w : World D). w.running) d.rest ∙ ap (λ l. l ++ actions) r.running in
      let images : logged.images ≡ old.images = ap (λ (w : World D). w.images) w.rest ∙ (ap (λ (w : World D). w.images) e.2 ∙ ap (λ (w : World D). w.images) d.rest) in
      record {
        rest = record {
          started = w.started still;
          running = ap (λ (w : World D). w.running) w.rest ∙ ap (λ (w : World D). w.running) e.2;
          over = subst (λ (k : ImageProgress). (k.phase ≡ Idle) ⊎ (k.phase ≡ Down)) (sym images) r.over;
          rests = rests;
        };
        ended = ap (λ (w : World D). w.ended) w.rest ∙ (ap (λ (w : World D). w.ended) e.2 ∙ ap (λ (w : World D). w.ended + 1) d.rest);
        since = ap (λ (w : World D). w.since) w.rest ∙ (ap (λ (w : World D). w.since) e.2 ∙ ap (λ (w : World D). w.since + 1) d.rest);
        cells = ap (λ (k : ImageProgress). k.cells) images;
        words = ap (λ (w : World D). w.content.live) w.rest ∙ ap (λ (w : World D). w.content.live) e.2;
        cause = λ up down.
            let same : ended.log ≡ old.log = ap (λ (w : World D). w.log) e.2 ∙ ap (λ (w : World D). w.log) d.rest in
            subst (λ (f : FourFiles D). Grew (disk.faults f.log_a) (disk.faults logged.files.log_a) ⊎ Grew (disk.faults f.log_b) (disk.faults logged.files.log_b))
            (ap (λ (w : World D). w.files) e.2 ∙ ap (λ (w : World D). w.files) d.rest)
            (elim (w.counts (ap (λ (k : LogProgress). k.down) same ∙ up)) [
              | inl went ↦ absurd (let e : true ≡ false = sym down ∙ went.0 in cc)
              | inr fell ↦ fell.1
            ]);
        follows = λ sure first ticks acknowledged f.
            w.follows sure (inl still) first (ticks ++ actions ∷ []) acknowledged
            (subst (λ l. Follows disk ended first (ticks ++ l ∷ []) acknowledged) running
            (end_follows disk laws played ended first ticks acknowledged over e (actions_follow disk laws old played actions first ticks acknowledged r.started d f).follows).follows);
      }

  -- a world at rest that made a checkpoint is at rest again
  pub marked_rests : (old begun written logged : World D) → IsAtRest old → BeginsRound old begun → RunsImages disk begun written → (written.images.phase ≡ Idle) ⊎ (written.images.phase ≡ Down)
      → RunsLog disk written logged → (logged.log.down ≡ true) ⊎ (work_of logged.log logged.queue ≡ 0) → IsAtRest logged
  marked_rests old begun written logged r d i over w rests = record {
    started = w.started (ap (λ (w : World D). w.log.starting) i.rest ∙ (ap (λ (w : World D). w.log.starting) d.1 ∙ r.started));
    running = ap (λ (w : World D). w.running) w.rest ∙ (ap (λ (w : World D). w.running) i.rest ∙ (ap (λ (w : World D). w.running) d.1 ∙ r.running));
    over = subst (λ (k : ImageProgress). (k.phase ≡ Idle) ⊎ (k.phase ≡ Down)) (sym (ap (λ (w : World D). w.images) w.rest)) over;
    rests = rests;
  }

  -- the newest image is of this tick
  pub image_is : KeeperLaws disk → (world : World D) (first : List ℕ) (ticks : List (List Action)) (acknowledged : ℕ) → world.log.starting ≡ false → (tick : ℕ)
      → tick ≡ newest_tick world.images.newest → Follows disk world first ticks acknowledged → HasImageOf disk.may_leave world.files tick
  image_is laws world first ticks acknowledged over tick is f =
      let files = world.files in
      let s = has_started disk world first ticks acknowledged f over in
      let newest = laws.newest world.images f.images files.image_a files.image_b f.has_images ∙ ap newest_in s.is_newest in
      image_in world.images.cells f.images (disk.may_leave files.image_a) (disk.may_leave files.image_b) s.newest.slot tick
      (ap newest_in s.is_newest ∙ ap (λ n. Some (s.newest.slot, n)) (sym (is ∙ ap newest_tick newest))) (laws.images_are world.images f.images files.image_a files.image_b f.has_images)
