-- A start begins in order, and in step with the ticks that it keeps.
use Rattle.std.proofs.Common.{rules}
use Rattle.std.proofs.Common.{◌≡◌, ℕ, ◌≤◌, Bool, true, false, IsTrue, List, [], length, Option, Ok, if◌then◌else◌, refl, sym, ap, subst, ◌∙◌, arith}
use Rattle.world_actions.specs.declared.action.Action.{Action}
use Rattle.world_actions.specs.declared.world.TheConstants.{CELLS}
use Rattle.world_ticks.specs.declared.tick.TheConstants.{TICK_MAX}
use Rattle.world_ticks.specs.After.{after_actions, after_ticks}
use Rattle.capture_core.specs.Content.{Content}
use Rattle.disk_model.specs.Disk.{Only}
use Rattle.disk_model.specs.declared.disk.Disk.{Ghosts}
use Rattle.disk_model.specs.declared.four_files.FourFiles.{FourFiles}
use Rattle.file_format.specs.Gate.{HasShutGate}
use Rattle.file_format.specs.declared.slot.Slot.{Slot}
use Rattle.image_files.specs.declared.phase.Phase.TheVariants.{Idle, Closing, Header}
use Rattle.image_files.specs.Images.{ImageFiles}
use Rattle.image_files.specs.Progress.{Progress as ImageProgress, PhaseFits, made_keeper, begun_keeper}
use Rattle.image_files.specs.Keeper.{Fits, TargetFits}
use Rattle.image_files.specs.Files.{DisksStand, FitsFiles as ImagesFit, HoldsNewest, IsReported}
use Rattle.action_log.specs.declared.progress.Progress.{Progress as LogProgress}
use Rattle.action_log.specs.Segment.{Segment, IsSegment}
use Rattle.action_log.specs.Progress.{begun, QueueFollows, end_of}
use Rattle.action_log.specs.Files.{FitsFiles as LogFits}
use Rattle.action_log.specs.Logs.{InStart, start_of, start_moves}
use Rattle.restart.specs.Start.{has_round, started_keeper, images_begun, IsBuilt}
use Rattle.restart.specs.InStep.{InStep}
use Rattle.engine.specs.World.{World, CellsLeft, IsInOrder}
use Rattle.engine.specs.Follows.{Follows}
use Rattle.engine.specs.Begins.{AreGates, Begins}
use Rattle.engine.specs.Laws.{KeeperLaws}
use Rattle.engine.proofs.Following.{Keeps}

-- ---- the store

pub built_live : (words : List ℕ) (round : Bool) (content : Content) → IsBuilt words round content → content.live ≡ words
built_live words round content s = search rules

begun_by : (shut : Bool) → (if shut then Header else Closing) ≡ Idle → ⊥
begun_by shut e = search rules

pub started_cells : (round : Bool) (tick : ℕ) (keeper : ImageProgress) → (started_keeper round tick keeper).cells ≡ keeper.cells
started_cells round tick keeper = search rules

pub started_newest : (round : Bool) (tick : ℕ) (keeper : ImageProgress) → (started_keeper round tick keeper).newest ≡ keeper.newest
started_newest round tick keeper = search rules

-- all cells of a round are left, and none if there is no round
cells_left : (cells tick : ℕ) (newest : Option (Slot × ℕ)) (shut_a shut_b round : Bool) (words : List ℕ) (content : Content) → length words ≡ cells → IsBuilt words round content
    → CellsLeft (started_keeper round tick (made_keeper cells newest shut_a shut_b)) content
cells_left cells tick newest shut_a shut_b round words content all built = search (rules, begun_by)

-- ---- a new keeper

-- the target of a round that begins, by its gate
target_begun : (shut : Bool) (keeper : ImageProgress) (target : List ℕ) → (IsTrue shut → HasShutGate target) → TargetFits (if shut then Header else Closing) keeper target
target_begun shut keeper target reported = search rules

phase_begun : (shut : Bool) (keeper : ImageProgress) → keeper.written ≡ 0 → keeper.chunk ≡ [] → PhaseFits (if shut then Header else Closing) keeper
phase_begun shut keeper none empty = search rules

-- a round that begins leaves the files as they are
begun_fits : (cells tick : ℕ) (newest : Option (Slot × ℕ)) (shut_a shut_b : Bool) (target newest_file : List ℕ) → tick ≤ TICK_MAX
    → Fits (made_keeper cells newest shut_a shut_b) target newest_file → Fits (begun_keeper tick (made_keeper cells newest shut_a shut_b)) target newest_file
begun_fits cells tick newest shut_a shut_b target newest_file most fits = search (rules, phase_begun, target_begun)

started_fits : (round : Bool) (cells tick : ℕ) (newest : Option (Slot × ℕ)) (shut_a shut_b : Bool) (image_a image_b : List ℕ)
    → tick ≤ TICK_MAX → ImagesFit (made_keeper cells newest shut_a shut_b) image_a image_b → ImagesFit (started_keeper round tick (made_keeper cells newest shut_a shut_b)) image_a image_b
started_fits round cells tick newest shut_a shut_b image_a image_b most fits = search (rules, begun_fits)

-- ---- in order

-- new keepers fit their files, and an empty queue follows
pub record FitLaws : Type 0 where
  pub images : (cells : ℕ) (newest : Option (Slot × ℕ)) (shut_a shut_b : Bool) (image_a image_b : List ℕ) → 1 ≤ cells → cells ≤ CELLS → HoldsNewest cells newest image_a image_b
      → (shut_a ≡ true → HasShutGate image_a) → (shut_b ≡ true → HasShutGate image_b) → ImagesFit (made_keeper cells newest shut_a shut_b) image_a image_b
  pub log : (tick : ℕ) (shut_a shut_b : Bool) (log_a log_b : List ℕ) → tick ≤ TICK_MAX → (shut_a ≡ true → HasShutGate log_a) → (shut_b ≡ true → HasShutGate log_b)
      → LogFits (begun tick shut_a shut_b) log_a log_b
  pub queue : (tick : ℕ) (shut_a shut_b : Bool) → QueueFollows (begun tick shut_a shut_b) [] × (end_of (begun tick shut_a shut_b) [] ≡ record { base = tick; count = 0 })

pub begins_in_order : {D : Type 0} (disk : Ghosts D) → FitLaws → (newest : Option (Slot × ℕ)) (tick : ℕ) (words : List ℕ) (shut : FourFiles Bool)
    (files : FourFiles D) (world : World D) → 1 ≤ length words → length words ≤ CELLS → tick ≤ TICK_MAX → (IsTrue disk.honest → AreGates disk.content files shut)
    → (IsTrue disk.honest → HoldsNewest (length words) newest (disk.content files.image_a) (disk.content files.image_b)) → Begins newest tick words shut files world → IsInOrder disk world
begins_in_order {D} disk laws newest tick words shut files world some few most gates holds b =
    let cells = length words in
    let round = has_round newest tick in
    let q = laws.queue tick shut.log_a shut.log_b in
    record {
      cells =
          search (rules, started_cells, built_live);
      left = subst (λ k. CellsLeft k world.content) (sym b.images) (cells_left cells tick newest shut.image_a shut.image_b round words world.content refl b.store);
      images_fit = λ sure. subst (λ (k : ImageProgress). ImagesFit k (disk.content world.files.image_a) (disk.content world.files.image_b)) (sym b.images)
          (search (rules, started_fits));
      log_fits = λ sure. subst (λ (k : LogProgress). LogFits k (disk.content world.files.log_a) (disk.content world.files.log_b)) (sym b.log)
          (search rules);
      queue_follows = subst (λ k. QueueFollows k world.queue) (sym b.log) (subst (QueueFollows (begun tick shut.log_a shut.log_b)) (sym b.queue) q.0);
      queue_end = search rules;
      within = omega (arith, b.since);
      most = omega (arith, b.ended, most);
    }

-- ---- in step

module _ {D : Type 0} (disk : Ghosts D) (laws : KeeperLaws disk) where
  begun_images : (cells : ℕ) (newest : Option (Slot × ℕ)) (tick : ℕ) (round : Bool) (images : ImageFiles) (shut : FourFiles Bool) (files : FourFiles D) → 1 ≤ cells → cells ≤ CELLS
      → tick ≤ TICK_MAX → Only (disk.content files.image_a) (disk.may_leave files.image_a) → Only (disk.content files.image_b) (disk.may_leave files.image_b) → AreGates disk.content files shut
      → IsReported cells newest images (disk.content files.image_a) (disk.content files.image_b)
      → DisksStand disk (started_keeper round tick (made_keeper cells newest shut.image_a shut.image_b)) (images_begun round tick images) files.image_a files.image_b
  begun_images cells newest tick false images shut files some few most only_a only_b gates reported =
      laws.made cells newest shut.image_a shut.image_b images files.image_a files.image_b some few only_a only_b gates.image_a gates.image_b reported
  begun_images cells newest tick true images shut files some few most only_a only_b gates reported =
      laws.begun (made_keeper cells newest shut.image_a shut.image_b) tick images files.image_a files.image_b refl most
      (laws.made cells newest shut.image_a shut.image_b images files.image_a files.image_b some few only_a only_b gates.image_a gates.image_b reported)

  pub begins_follow : (first : List ℕ) (newest : Option (Slot × ℕ)) (tick : ℕ) (words : List ℕ) (shut : FourFiles Bool) (files : FourFiles D) (world : World D)
      → Begins newest tick words shut files world → length first ≡ length words → 1 ≤ length words → length words ≤ CELLS → tick ≤ TICK_MAX → AreGates disk.content files shut
      → Only (disk.content files.image_a) (disk.may_leave files.image_a) → Only (disk.content files.image_b) (disk.may_leave files.image_b)
      → Only (disk.content files.log_a) (disk.may_leave files.log_a) → Only (disk.content files.log_b) (disk.may_leave files.log_b)
      → (images : ImageFiles) → IsReported (length words) newest images (disk.content files.image_a) (disk.content files.image_b)
      → (before_a before_b : Segment) → IsSegment (disk.content files.log_a) before_a → IsSegment (disk.content files.log_b) before_b → (ticks : List (List Action)) (acknowledged : ℕ)
      → InStep first ticks acknowledged world.content (images_begun (has_round newest tick) tick images)
      (InStart (record { tick = tick; before_a = before_a; before_b = before_b; begun = false })) []
      → after_ticks first ticks ≡ Ok words → tick ≡ length ticks
      → Keeps disk world first ticks acknowledged (images_begun (has_round newest tick) tick images) (start_of tick before_a before_b (start_moves shut.log_a shut.log_b))
  begins_follow first newest tick words shut files world b all some few most gates oa ob ola olb images reported before_a before_b reads_a reads_b ticks acknowledged step after count =
      let cells = length words in
      let round = has_round newest tick in
      let keeper = started_keeper round tick (made_keeper cells newest shut.image_a shut.image_b) in
      let begun_at = images_begun round tick images in
      let place = start_of tick before_a before_b (start_moves shut.log_a shut.log_b) in
      let is : Follows disk world first ticks acknowledged = record {
        images = begun_at;
        place = place;
        has_images = subst (λ (k : ImageProgress). DisksStand disk k begun_at world.files.image_a world.files.image_b) (sym b.images)
            (subst (λ (f : FourFiles D). DisksStand disk keeper begun_at f.image_a f.image_b) (sym b.files_are)
            (begun_images cells newest tick round images shut files some few most oa ob gates reported));
        has_log = search rules;
        cells = ap (λ (k : ImageProgress). k.cells) b.images ∙ (started_cells round tick (made_keeper cells newest shut.image_a shut.image_b) ∙ sym all);
        last = words;
        after_ended = after;
        live = ap (after_actions words) b.running ∙ ap (λ (w : List ℕ). Ok w) (sym (built_live words round world.content b.store));
        at_rest = b.running;
        ended = b.ended ∙ count;
        count = acknowledged;
        at_least = omega arith;
        in_step = subst (λ q. InStep first ticks acknowledged world.content begun_at place.journal q) (sym b.queue) step;
      } in
      record { follows = is; images_are = refl; place_is = refl }
