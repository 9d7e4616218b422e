-- A start begins with the invariant of a core, for a fresh world and after a crash.
use Rattle.std.specs.Prelude.{replicate}
use Rattle.std.proofs.Common.{◌≡◌, ℕ, ◌≤◌, Bool, true, false, if◌then◌else◌, List, [], length, map, Option, None, option_map, Ok, refl, sym, ap, subst, ◌∙◌, arith}
use Rattle.std.proofs.lemmas.List.{length-replicate}
use Rattle.world_actions.specs.declared.world.TheConstants.{CELLS}
use Rattle.world_ticks.specs.declared.tick.TheConstants.{TICK_MAX}
use Rattle.world_ticks.specs.After.{after_ticks}
use Rattle.file_format.specs.declared.slot.Slot.{Slot}
use Rattle.disk_model.specs.Disk.{Only}
use Rattle.image_files.specs.declared.phase.Phase.TheVariants.{Idle, Closing, Header}
use Rattle.image_files.specs.Images.{Round, ImageFiles, NoneYet, Newest, round_in, newest_in}
use Rattle.image_files.specs.Files.{ReportsShut, IsReported}
use Rattle.image_files.specs.Progress.{Progress, made_keeper, newest_tick}
use Rattle.action_log.specs.Segment.{Segment, IsSegment}
use Rattle.action_log.specs.declared.progress.Progress.{Progress as LogProgress}
use Rattle.action_log.specs.Logs.{Start, InStart, start_of, start_moves}
use Rattle.restart.specs.Start.{has_round, started_keeper, images_begun, is_shut}
use Rattle.restart.specs.InStep.{InStep}
use Rattle.engine.specs.World.{IsInOrder}
use Rattle.engine.specs.Refusals.{is_down}
use Rattle.engine.proofs.Beginning.{begins_follow, started_cells}
use Rattle.world_core.specs.Standing.{Standing, standing_at, start_round, queued_of}
use Rattle.world_core.specs.Past.{Past}
use Rattle.world_core.specs.State.{File, State, core_disk}
use Rattle.world_core.specs.Laws.{SafetyLaws}
use Rattle.world_core.specs.Starting.{HasOnly, gates_of, Begins}
use Rattle.world_core.specs.Facts.{IsCoreAt, is_known}
use Rattle.world_core.proofs.Exact.{still_reported}

-- ---- files

reports : SafetyLaws → (bytes : List ℕ) (file : File) → HasOnly bytes file → ReportsShut (is_shut bytes) (core_disk.content file)
reports laws bytes file h = subst (λ f. ReportsShut (is_shut bytes) f) (sym h.content) (laws.reported bytes)

only : (bytes : List ℕ) (file : File) → HasOnly bytes file → Only (core_disk.content file) (core_disk.may_leave file)
only bytes file h = subst (λ f. Only f (core_disk.may_leave file)) (sym h.content) h.only

-- ---- the images

with_round_known : (round : Bool) (tick : ℕ) (images : ImageFiles) → is_known (images_begun round tick images) ≡ is_known images
with_round_known false tick images = refl
with_round_known true tick (NoneYet images) = refl
with_round_known true tick (Newest images) = refl

with_round_newest : (round : Bool) (tick : ℕ) (images : ImageFiles) → newest_in (images_begun round tick images) ≡ newest_in images
with_round_newest false tick images = refl
with_round_newest true tick (NoneYet images) = refl
with_round_newest true tick (Newest images) = refl

with_round_tick : (round : Bool) (tick : ℕ) (images : ImageFiles) → round_in images ≡ None → start_round round tick ≡ option_map (λ (r : Round). r.tick) (round_in (images_begun round tick images))
with_round_tick false tick images none = sym (ap (option_map (λ (r : Round). r.tick)) none)
with_round_tick true tick (NoneYet images) none = refl
with_round_tick true tick (Newest images) none = refl

begun_up : (shut : Bool) → false ≡ is_down (if shut then Header else Closing)
begun_up true = refl
begun_up false = refl

keeper_up : (round : Bool) (tick : ℕ) (keeper : Progress) → keeper.phase ≡ Idle → false ≡ is_down (started_keeper round tick keeper).phase
keeper_up false tick keeper idle = sym (ap is_down idle)
keeper_up true tick keeper idle = begun_up keeper.target_shut

-- ---- the whole

abbrev pub start_at : ℕ → Segment → Segment → Start
start_at tick before_a before_b = record { tick = tick; before_a = before_a; before_b = before_b; begun = false }

pub begins_core : SafetyLaws → (newest : Option (Slot × ℕ)) (tick : ℕ) (words : List ℕ) (image_a image_b log_a log_b : List ℕ) (past : Past) (new : State)
    → Begins newest tick words image_a image_b log_a log_b new → IsInOrder core_disk new → 1 ≤ length words → length words ≤ CELLS → tick ≤ TICK_MAX
    → (images : ImageFiles) → IsReported (length words) newest images image_a image_b → round_in images ≡ None
    → (before_a before_b : Segment) → IsSegment log_a before_a → IsSegment log_b before_b
    → length past.history.ticks ≡ tick → past.history.running ≡ [] → after_ticks (replicate (length words) 0) past.history.ticks ≡ Ok words
    → past.standing ≡ standing_at (newest_tick newest) tick (has_round newest tick) (is_shut log_a) (is_shut log_b) → past.has_image ≡ is_known images → newest_in images ≡ newest
    → InStep (replicate (length words) 0) past.history.ticks past.acknowledged new.content (images_begun (has_round newest tick) tick images) (InStart (start_at tick before_a before_b)) []
    → IsCoreAt past new
begins_core laws newest tick words image_a image_b log_a log_b past new b order some few numbered images reported
    no_round before_a before_b reads_a reads_b count idle after standing known newest_is in_step =
    let cells = length words in
    let round = has_round newest tick in
    let shut = gates_of image_a image_b log_a log_b in
    let files = new.files in
    let w = b.world in
    let f = b.files in
    let keeper = made_keeper cells newest shut.image_a shut.image_b in
    let begun_at = images_begun round tick images in
    let place = start_of tick before_a before_b (start_moves shut.log_a shut.log_b) in
    let k = begins_follow core_disk laws.keepers (replicate cells 0) newest tick words shut files new w (length-replicate cells 0) some few numbered (record {
      image_a = reports laws image_a files.image_a f.file_a;
      image_b = reports laws image_b files.image_b f.file_b;
      log_a = reports laws log_a files.log_a f.file_la;
      log_b = reports laws log_b files.log_b f.file_lb;
    })
    (only image_a files.image_a f.file_a) (only image_b files.image_b f.file_b) (only log_a files.log_a f.file_la) (only log_b files.log_b f.file_lb) images
    (subst (λ x. IsReported cells newest images x (core_disk.content files.image_b)) (sym f.file_a.content) (subst (λ x. IsReported cells newest images image_a x) (sym f.file_b.content) reported))
    before_a before_b (subst (λ x. IsSegment x before_a) (sym f.file_la.content) reads_a) (subst (λ x. IsSegment x before_b) (sym f.file_lb.content) reads_b)
    past.history.ticks past.acknowledged in_step after (sym count) in
    record {
      size = cells;
      some_cells = some;
      few_cells = few;
      cells_are = ap (λ (k : Progress). k.cells) w.images ∙ started_cells round tick keeper;
      order = order;
      follows = k.follows;
      running = w.running ∙ sym idle;
      since = w.since ∙ sym (ap (λ (s : Standing). s.since) standing);
      few = omega (arith, w.since);
      taken = [];
      records = ap (λ (s : Standing). s.records) standing ∙ ap (map queued_of) (sym w.queue);
      reported = still_reported past new k.follows.images begun_at k.follows.place place k.images_are k.place_is (record {
        is_image_known = known ∙ sym (with_round_known round tick images);
        start_left = ap (λ (s : Standing). s.start_left) standing;
        image_down = ap (λ (s : Standing). s.is_image_down) standing ∙ keeper_up round tick keeper refl ∙ ap (λ (k : Progress). is_down k.phase) (sym w.images);
        log_down = ap (λ (s : Standing). s.is_log_down) standing ∙ ap (λ (k : LogProgress). k.down) (sym w.log);
        round = ap (λ (s : Standing). s.round) standing ∙ with_round_tick round tick images no_round;
        newest = ap (λ (s : Standing). s.newest) standing ∙ ap newest_tick (sym newest_is ∙ sym (with_round_newest round tick images));
      });
    }
