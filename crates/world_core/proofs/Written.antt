-- No crash leaves an empty file of a core, or a short one, from the start's end and from the first ticks on.
use Rattle.std.proofs.Common.{◌≡◌, ℕ, zero, suc, ◌+◌, ◌<◌, ◌≤◌, ◌⊎◌, inl, inr, Bool, true, false, IsTrue, List, [], ◌∷◌, length}
use Rattle.std.proofs.Common.{take, replicate, Option, Some, None, refl, sym, ap, subst, ◌∙◌, arith}
use Rattle.std.specs.Prelude.{nat_le}
use Rattle.std.proofs.lemmas.List.{length-append, length-take}
use Rattle.std.proofs.lemmas.Bool.{cases_lt}
use Rattle.std.proofs.lemmas.Bool.Decides.{nat_tests}
use Rattle.world_actions.specs.declared.action.Action.{Action}
use Rattle.file_format.specs.declared.slot.Slot.{Slot}
use Rattle.file_format.specs.declared.slot.Slot.TheVariants.{A, B}
use Rattle.file_format.specs.Slot.{of_slot, in_slot, beside_slot, other_slot}
use Rattle.disk_model.specs.Disk.{OneCalledAtMostOnce}
use Rattle.disk_model.specs.FileState.{FileState, Calls}
use Rattle.disk_model.specs.Fused.{CallsThrough, keeps_through}
use Rattle.disk_model.specs.CrashOutcome.{IsCrashOutcome, durable_stays, no_fewer}
use Rattle.disk_model.proofs.FilledLemmas.{one_call_keeps}
use Rattle.engine.proofs.Runs.{image_step_calls, log_step_calls}
use Rattle.image_files.specs.declared.answer.ImageAnswer.{ImageAnswer}
use Rattle.image_files.specs.declared.answer.ImageAnswer.TheVariants as image_given
use Rattle.image_files.specs.Image.{Image, Closed, Open, image_of}
use Rattle.image_files.specs.Images.{Round, FirstImages, ImageFiles, NoneYet, Newest, newest_in, round_in, with_opened, StepsImages}
use Rattle.image_files.specs.Progress.{Progress as ImageProgress, newest_tick, target_of, made_keeper}
use Rattle.capture_core.specs.Content.{Content, Takes}
use Rattle.action_log.specs.declared.phase.Phase.{Phase}
use Rattle.action_log.specs.declared.phase.Phase.TheVariants.{Retiring, RetiringSync, Ready, BodySync, Gate, GateSync, Closing, ClosingSync, Header, HeaderSync, Opening, OpeningSync}
use Rattle.action_log.specs.declared.record.Record.{Record}
use Rattle.action_log.specs.declared.record.Record.TheVariants as records
use Rattle.action_log.specs.declared.answer.LogAnswer.{LogAnswer}
use Rattle.action_log.specs.declared.answer.LogAnswer.TheVariants as log_given
use Rattle.action_log.specs.declared.progress.Progress.{Progress as LogProgress}
use Rattle.action_log.specs.Progress.{rest_in, is_of_start}
use Rattle.action_log.specs.Written.{Written}
use Rattle.action_log.specs.Files.{CurrentFits, CurrentOutcomes}
use Rattle.action_log.specs.Segment.{Segment, IsSegment}
use Rattle.action_log.specs.Logs.{Start, Journal, InStart, Writing, LogPlace, LogsAre, started}
use Rattle.action_log.specs.LogSteps.{StepIn}
use Rattle.recovery.specs.Recovery.{Recovery}
use Rattle.recovery.specs.Restart.{IsBuilt}
use Rattle.recovery.specs.Start.{IsFirstRound}
use Rattle.restart.specs.Start.{has_round, is_shut}
use Rattle.engine.specs.Fuses.{images_armed, log_armed}
use Rattle.engine.specs.Steps.{EndsTick}
use Rattle.engine.specs.World.{HasImages}
use Rattle.engine.proofs.Beginning.{started_newest}
use Rattle.restart.specs.InStep.{HasPhase}
use Rattle.world_core.specs.declared.moves.Fate.{Fate}
use Rattle.world_core.specs.declared.moves.Move.{Move}
use Rattle.world_core.specs.declared.moves.Move.TheVariants as move
use Rattle.world_core.specs.declared.moves.Answer.{Answer}
use Rattle.world_core.specs.declared.moves.Answer.TheVariants as answer
use Rattle.world_core.specs.Past.{Past, past_after, fresh_past}
use Rattle.world_core.specs.State.{File, State, files_in, core_disk}
use Rattle.world_core.specs.Starting.{HasOnly, Begins, BeginsFresh, StandsOn}
use Rattle.world_core.specs.Moving.{is_failed, StepsImagesBy, StepsLogBy}
use Rattle.world_core.specs.Exact.{MayLeave}
use Rattle.world_core.specs.Facts.{IsCoreAt}
use Rattle.world_core.specs.Headline.{Answers}
use Rattle.world_core.specs.Laws.{KeeperLaws, SafetyLaws}
use Rattle.world_core.specs.Written.{NoneIsEmpty, IsWritten, AreWritten, StayWritten}
use Rattle.world_core.proofs.Safe.{core_is_safe_for}
use Rattle.world_core.proofs.Imaging.{taken_newest}
use Rattle.world_core.proofs.Logging.{HasLog}
use Rattle.world_core.proofs.Recovering.{restarts}

-- ---- a file

outcome_written : (count : ℕ) (file : FileState) (left : List ℕ) → IsWritten count file → IsCrashOutcome file left → count ≤ length left
outcome_written count file left w o = omega (arith, w, o.no_shorter)

only_written : (count : ℕ) (bytes : List ℕ) (file : File) → HasOnly bytes file → count ≤ length bytes → IsWritten count file.inner
only_written count bytes file h some = subst (λ b. count ≤ length b) (sym (h.only file.inner.durable (durable_stays file.inner))) some

-- bytes that are written stay so
abbrev pub Keeps : (old new : File) → Type 0
Keeps old new = (count : ℕ) → IsWritten count old.inner → IsWritten count new.inner

-- no call shortens a file
calls_keep : (a new_a b new_b : File) → OneCalledAtMostOnce (CallsThrough Calls) a new_a b new_b → Keeps a new_a × Keeps b new_b
calls_keep a new_a b new_b is = (λ count. (both count).0, λ count. (both count).1)
  where
    both : (count : ℕ) → (IsWritten count a.inner → IsWritten count new_a.inner) × (IsWritten count b.inner → IsWritten count new_b.inner)
    both count = one_call_keeps (CallsThrough Calls) (λ (f : File). IsWritten count f.inner)
        (keeps_through Calls (IsWritten count) (λ old new call succeeded is w. omega (arith, w, no_fewer old new call succeeded is))) a new_a b new_b is

-- ---- a step of a keeper

image_step_keeps : (fate : Fate) (old : State) (given : ImageAnswer) (new : State)
    → StepsImagesBy fate old given new → Keeps old.files.image_a new.files.image_a × Keeps old.files.image_b new.files.image_b
image_step_keeps fate old given new s = calls_keep _ _ _ _ (image_step_calls core_disk (images_armed (is_failed fate) old) given new s)

log_step_keeps : (fate : Fate) (old : State) (given : LogAnswer) (new : State) → StepsLogBy fate old given new → Keeps old.files.log_a new.files.log_a × Keeps old.files.log_b new.files.log_b
log_step_keeps fate old given new s = calls_keep _ _ _ _ (log_step_calls core_disk (log_armed (is_failed fate) old) given new s)

-- ---- files with an open image or segment

short_image : (bytes : List ℕ) → length bytes < 17 → image_of bytes ≡ Closed
unfolding image_of
short_image bytes short = (let no : nat_le 17 (length bytes) ≡ false = grind (arith, nat_tests, short) in rw no refl)

headed_image : (bytes : List ℕ) (tick : ℕ) (words : List ℕ) → image_of bytes ≡ Open tick words → 17 ≤ length bytes
headed_image bytes tick words is = elim (cases_lt (length bytes) 17) [
  | inl short ↦ absurd (let e : Closed ≡ Open tick words = sym (short_image bytes short) ∙ is in cc)
  | inr long ↦ long
]

open_written : (file : FileState) (tick : ℕ) (words : List ℕ) → ((left : List ℕ) → IsCrashOutcome file left → image_of left ≡ Open tick words) → IsWritten 17 file
open_written file tick words reads = headed_image file.durable tick words (reads file.durable (durable_stays file))

-- both images are open
both_open : (slot : Slot) (a b : FileState) (tick earlier : ℕ) (words before : List ℕ)
    → ((left : List ℕ) → in_slot slot (IsCrashOutcome a) (IsCrashOutcome b) left → image_of left ≡ Open tick words)
    → ((left : List ℕ) → beside_slot slot (IsCrashOutcome a) (IsCrashOutcome b) left → image_of left ≡ Open earlier before)
    → IsWritten 17 a × IsWritten 17 b
both_open A a b tick earlier words before newest beside = (open_written a tick words newest, open_written b earlier before beside)
both_open B a b tick earlier words before newest beside = (open_written a earlier before beside, open_written b tick words newest)

current_written : (tick : ℕ) (log_a log_b : FileState) → LogsAre (started tick) (IsCrashOutcome log_a) (IsCrashOutcome log_b) → IsWritten 10 log_a
current_written tick log_a log_b logs =
    let r = logs.current log_a.durable (durable_stays log_a) in
    elim r.2 [
      | inl is ↦ (let s = subst (IsSegment log_a.durable) is r.1 in omega (arith, s.long))
      | inr is ↦ (let s = subst (IsSegment log_a.durable) is r.1 in omega (arith, s.long))
    ]

-- ---- the end of a start

-- only the last call of a start is the last of its job
last_phase : (phase : Phase) (shut : Bool) → rest_in phase shut ≡ 1 → IsTrue (is_of_start phase true) → phase ≡ OpeningSync
last_phase Retiring true one of_start = absurd (omega (arith, one))
last_phase Retiring false one of_start = absurd (omega (arith, one))
last_phase RetiringSync true one of_start = absurd (omega (arith, one))
last_phase RetiringSync false one of_start = absurd (omega (arith, one))
last_phase Ready shut one of_start = absurd (omega (arith, one))
last_phase BodySync shut one of_start = absurd (omega (arith, one))
last_phase Gate shut one of_start = absurd (omega (arith, one))
last_phase GateSync shut one of_start = absurd (let h = of_start in cc)
last_phase Closing shut one of_start = absurd (omega (arith, one))
last_phase ClosingSync shut one of_start = absurd (omega (arith, one))
last_phase Header shut one of_start = absurd (omega (arith, one))
last_phase HeaderSync shut one of_start = absurd (omega (arith, one))
last_phase Opening shut one of_start = absurd (omega (arith, one))
last_phase OpeningSync shut one of_start = refl

-- before that call log.b was closed, durably
retired_written : (phase : Phase) (current : Slot) (starting down : Bool) (base : ℕ) (written : Written) (log_a log_b : FileState) → phase ≡ OpeningSync → current ≡ B → starting ≡ true
    → CurrentFits phase starting down base written (of_slot current log_a.content log_b.content)
    → CurrentOutcomes phase base written (of_slot current log_a.content log_b.content) (in_slot current (IsCrashOutcome log_a) (IsCrashOutcome log_b))
    → IsWritten 1 log_b
retired_written phase current starting down base written log_a log_b last is_b in_start fits keepers =
    let shut = subst (λ s. CurrentFits OpeningSync true down base written (of_slot s log_a.content log_b.content)) is_b
    (subst (λ p. CurrentFits p true down base written (of_slot current log_a.content log_b.content)) last
    (subst (λ s. CurrentFits phase s down base written (of_slot current log_a.content log_b.content)) in_start fits)) in
    let only = subst (λ s. CurrentOutcomes OpeningSync base written (of_slot s log_a.content log_b.content) (in_slot s (IsCrashOutcome log_a) (IsCrashOutcome log_b))) is_b
    (subst (λ p. CurrentOutcomes p base written (of_slot current log_a.content log_b.content) (in_slot current (IsCrashOutcome log_a) (IsCrashOutcome log_b))) last keepers) in
    subst (λ b. 1 ≤ length b) (sym (only log_b.durable (durable_stays log_b))) shut.0

ends_closed : (state : State) (start : Start) (left : ℕ) → HasLog state (record { journal = InStart start; left = left })
    → state.log.down ≡ false → state.log.starting ≡ true → left ≡ 1 → IsWritten 1 state.files.log_b.inner
ends_closed state start left h up in_start one =
    let keeper = state.log in
    let last = last_phase keeper.phase keeper.other_shut (sym (h.left_is up) ∙ one) (subst (λ s. IsTrue (is_of_start keeper.phase s)) in_start h.holds.in_order.of_start) in
    retired_written keeper.phase keeper.current keeper.starting keeper.down keeper.base h.written state.files.log_a.inner state.files.log_b.inner last (h.holds.in_order.first_is_a in_start) in_start
    h.holds.fits.of_current h.endures.of_current

not_both : (b : Bool) → b ≡ true → b ≡ false → ⊥
not_both b is isnt = absurd (let e : true ≡ false = sym is ∙ isnt in cc)

-- a keeper that is down stays in its start
was_up : (fate : Fate) (down : Bool) (old : State) (given : LogAnswer) (new : State) → old.log.down ≡ down
    → StepsLogBy fate old given new → old.log.starting ≡ true → new.log.starting ≡ false → old.log.down ≡ false
was_up fate false old given new e s was is = e
was_up fate true old given new e s was is = absurd (not_both new.log.starting (ap (λ (k : LogProgress). k.starting) (s.rests (inr e)).0 ∙ was) is)

-- the start's last step leaves both logs written
start_ends : KeeperLaws → (fate : Fate) (old new : State) (journal : Journal) (left : ℕ) (given : LogAnswer) (next : LogPlace) → StepsLogBy fate old given new
    → HasLog old (record { journal = journal; left = left }) → HasLog new next → StepIn journal left old.queue given next new.queue
    → old.log.starting ≡ true → new.log.starting ≡ false → IsWritten 10 new.files.log_a.inner × IsWritten 1 new.files.log_b.inner
start_ends keepers fate old new (Writing logs) left given next s had has step was is = absurd (not_both old.log.starting was had.0.over)
start_ends keepers fate old new (InStart start) left log_given.Idle next s had has step was is = absurd step.0
start_ends keepers fate old new (InStart start) left (log_given.Acked tick) next s had has step was is = absurd step.0
start_ends keepers fate old new (InStart start) left log_given.Down next s had has step was is =
    absurd (not_both new.log.starting (let h = subst (HasLog new) step.0.1 has in h.in_work) is)
start_ends keepers fate old new (InStart start) left log_given.Working next s had has step was is = elim step.0 [
  | inl more ↦ absurd (not_both new.log.starting (let h = subst (HasLog new) more.1 has in h.in_work) is)
  | inr last ↦ (
      let place : LogPlace = record { journal = Writing (started start.tick); left = 0 } in
      let a = current_written start.tick new.files.log_a.inner new.files.log_b.inner (keepers.reads new.log new.files.log_a new.files.log_b place (subst (HasLog new) last.1 has)) in
      (a, (log_step_keeps fate old log_given.Working new s).1 1 (ends_closed old start left had (was_up fate old.log.down old log_given.Working new refl s was is) was last.0)))
]

log_ends : KeeperLaws → (fate : Fate) (old new : State) (place : LogPlace) (given : LogAnswer) → HasLog old place
    → StepsLogBy fate old given new → old.log.starting ≡ true → new.log.starting ≡ false
    → IsWritten 10 new.files.log_a.inner × IsWritten 1 new.files.log_b.inner
log_ends keepers fate old new place given has s was is =
    let next = s.stands refl place has in
    start_ends keepers fate old new place.journal place.left given next.0 s has next.1 next.2 was is

-- ---- a round's end

-- a round that goes on, and one that fails, leave the newest image
newest_same : (cells : ℕ) (images : ImageFiles) (given : ImageAnswer) (next : ImageFiles) (old new : Content) → StepsImages Takes cells images given next old new
    → (newest_in next ≡ newest_in images) ⊎ ((round : Round) × (next ≡ with_opened round images) × (round_in images ≡ Some round))
newest_same cells images image_given.Idle next old new s = inl (ap newest_in s.1)
newest_same cells images image_given.Working next old new s = elim s.2 [
  | inl same ↦ inl (ap newest_in same.0)
  | inr took ↦ inl (ap newest_in took.2 ∙ taken_newest took.0 images)
]
newest_same cells images (image_given.Opened tick) next old new s = inr (s.0, s.4, s.1)
newest_same cells images image_given.Down next old new s = inl (ap newest_in s.2)

-- the first image is of tick 0
first_tick : (first : List ℕ) (ticks : List (List Action)) (acknowledged : ℕ) (images : FirstImages) (journal : Journal)
    (queue : List Record) (round : Round) → HasPhase first ticks acknowledged (NoneYet images) journal queue → images.round ≡ Some round → round.tick ≡ 0
first_tick first ticks acknowledged images (InStart start) queue round h some = (let begins = subst (IsFirstRound first) some h.0.follows.round in begins.0)
first_tick first ticks acknowledged images (Writing logs) queue round h some = absurd h

-- a round that ends leaves two images that are written, except the first one
opened_written : KeeperLaws → (past : Past) (old new : State) (first : List ℕ) (count : ℕ) (images : ImageFiles) (journal : Journal) (round : Round)
    → HasPhase first past.history.ticks count images journal old.queue → round_in images ≡ Some round
    → HasImages core_disk new (with_opened round images) → 0 < newest_tick (newest_in (with_opened round images)) → IsWritten 17 new.files.image_a.inner × IsWritten 17 new.files.image_b.inner
opened_written keepers past old new first count (NoneYet images) journal round phase some has after_first =
    absurd (omega (arith, after_first, first_tick first past.history.ticks count images journal old.queue round phase some))
opened_written keepers past old new first count (Newest images) journal round phase some has after_first =
    let left = keepers.images_are new.images (with_opened round (Newest images)) new.files.image_a new.files.image_b has in
    both_open (other_slot images.slot) new.files.image_a.inner new.files.image_b.inner round.tick images.tick round.taken images.words left.newest left.target

image_step_written : KeeperLaws → (past : Past) (fate : Fate) (old : State) (given : ImageAnswer) (new : State)
    → IsCoreAt past old → StepsImagesBy fate old given new → AreWritten past old
    → 0 < newest_tick new.images.newest → IsWritten 17 new.files.image_a.inner × IsWritten 17 new.files.image_b.inner
image_step_written keepers past fate old given new c s w after_first =
    let next = s.stands refl c.images c.has_images in
    let was : old.images.newest ≡ newest_in c.images = keepers.newest old.images c.images old.files.image_a old.files.image_b c.has_images in
    let is : new.images.newest ≡ newest_in next.0 = keepers.newest new.images next.0 new.files.image_a new.files.image_b next.1 in
    let keeps = image_step_keeps fate old given new s in
    elim (newest_same old.images.cells c.images given next.0 old.content new.content next.2) [
      | inl same ↦ (
          let before : 0 < newest_tick old.images.newest = subst (λ n. 0 < newest_tick n) (is ∙ same ∙ sym was) after_first in
          let both = w.imaged before in
          (keeps.0 17 both.0, keeps.1 17 both.1))
      | inr opened ↦ (
          let has = subst (HasImages core_disk new) opened.1 next.1 in
          opened_written keepers past old new (replicate c.size 0) c.follows.count c.images c.place.journal opened.0 c.follows.in_step.phase opened.2 has
          (subst (λ n. 0 < newest_tick n) (is ∙ ap newest_in opened.1) after_first))
    ]

-- ---- a tick's end

-- a record is queued only after the start
queued_by : (past : Past) (state : State) (first : List ℕ) (count : ℕ) (images : ImageFiles) (journal : Journal) (left : ℕ)
    → HasPhase first past.history.ticks count images journal state.queue → HasLog state (record { journal = journal; left = left })
    → 0 < length state.queue → state.log.starting ≡ false
queued_by past state first count (NoneYet images) (InStart start) left h has some = absurd (omega (arith, some, ap length h.1))
queued_by past state first count (Newest images) (InStart start) left h has some = absurd (omega (arith, some, ap length h.1))
queued_by past state first count (NoneYet images) (Writing logs) left h has some = absurd h
queued_by past state first count (Newest images) (Writing logs) left h has some = has.0.over

-- a queued record comes after the start, so both logs are written
tick_written : (past next : Past) (old new : State) → IsCoreAt next new → EndsTick old new → AreWritten past old → AreWritten next new
tick_written past next old new c e w =
    let queued : length new.queue ≡ length old.queue + 1 = ap (λ (s : State). length s.queue) e.2 ∙ length-append old.queue (records.Tick e.0 ∷ []) in
    let over : new.log.starting ≡ false = queued_by next new (replicate c.size 0) c.follows.count c.images c.place.journal c.place.left c.follows.in_step.phase c.has_log
    (let some : 0 < length new.queue = omega (arith, queued) in some) in
    let both = w.started (ap (λ (s : State). s.log.starting) (sym e.2) ∙ over) in
    subst (AreWritten next) (sym e.2) (record { started = λ is. both; ticked = λ some. both; imaged = w.imaged })

-- ---- the moves of the keepers

image_written : KeeperLaws → (past : Past) (fate : Fate) (old : State) (given : ImageAnswer) (new : State)
    → IsCoreAt past old → StepsImagesBy fate old given new → AreWritten past old → AreWritten past new
image_written keepers past fate old given new c s w =
    subst (AreWritten past) (sym s.rest) (record { started = w.started; ticked = w.ticked; imaged = image_step_written keepers past fate old given new c s w })

log_started : KeeperLaws → (past : Past) (fate : Fate) (old : State) (given : LogAnswer) (new : State) → IsCoreAt past old → StepsLogBy fate old given new → AreWritten past old
    → (was : Bool) → old.log.starting ≡ was → new.log.starting ≡ false → IsWritten 10 new.files.log_a.inner × IsWritten 1 new.files.log_b.inner
log_started keepers past fate old given new c s w true was is = log_ends keepers fate old new c.place given c.has_log s was is
log_started keepers past fate old given new c s w false was is = (let both = w.started was in let keeps = log_step_keeps fate old given new s in (keeps.0 10 both.0, keeps.1 1 both.1))

log_written : KeeperLaws → (past : Past) (fate : Fate) (old : State) (given : LogAnswer) (new : State)
    → IsCoreAt past old → StepsLogBy fate old given new → AreWritten past old → AreWritten past new
log_written keepers past fate old given new c s w =
    let keeps = log_step_keeps fate old given new s in
    subst (AreWritten past) (sym s.rest) (record {
      started = log_started keepers past fate old given new c s w old.log.starting refl;
      ticked = λ some. (let both = w.ticked some in (keeps.0 10 both.0, keeps.1 1 both.1));
      imaged = w.imaged;
    })

-- ---- a crash

-- a start on files of which none is empty
begun_written : (newest : Option (Slot × ℕ)) (tick : ℕ) (words image_a image_b log_a log_b : List ℕ) (next : Past) (new : State)
    → Begins newest tick words image_a image_b log_a log_b new
    → (0 < length next.history.ticks → (10 ≤ length log_a) × (1 ≤ length log_b)) → (0 < newest_tick newest → (17 ≤ length image_a) × (17 ≤ length image_b))
    → AreWritten next new
begun_written newest tick words image_a image_b log_a log_b next new b logs images = record {
  started = λ is. absurd (not_both new.log.starting (ap (λ (k : LogProgress). k.starting) b.world.log) is);
  ticked = λ some. (let both = logs some in (only_written 10 log_a new.files.log_a b.files.file_la both.0, only_written 1 log_b new.files.log_b b.files.file_lb both.1));
  imaged = λ after_first. (
      let is : new.images.newest ≡ newest = ap (λ (k : ImageProgress). k.newest) b.world.images ∙ started_newest (has_round newest tick) tick
      (made_keeper (length words) newest (is_shut image_a) (is_shut image_b)) in
      let both = images (subst (λ n. 0 < newest_tick n) is after_first) in
      (only_written 17 image_a new.files.image_a b.files.file_a both.0, only_written 17 image_b new.files.image_b b.files.file_b both.1));
}

-- the file in a slot is the newest image's or the other one
beside_or : (chosen slot : Slot) (image_a image_b : Image) (which : Image) → of_slot chosen image_a image_b ≡ which → (of_slot slot image_a image_b ≡ which) ⊎ (of_slot slot image_b image_a ≡ which)
beside_or A A image_a image_b which is = inl is
beside_or A B image_a image_b which is = inr is
beside_or B A image_a image_b which is = inr is
beside_or B B image_a image_b which is = inl is

open_tick : (tick from : ℕ) (words older : List ℕ) → Open tick words ≡ Open from older → tick ≡ from
open_tick tick from words older e = cc

-- if recovery takes the newest image, its tick is that image's; else the other file is open
taken_or_open : (newest beside : List ℕ) (tick from : ℕ) (words older : List ℕ) → image_of newest ≡ Open tick words
    → (image_of newest ≡ Open from older) ⊎ (image_of beside ≡ Open from older) → (tick ≡ from) ⊎ (17 ≤ length beside)
taken_or_open newest beside tick from words older reads (inl is) = inl (open_tick tick from words older (sym reads ∙ is))
taken_or_open newest beside tick from words older reads (inr is) = inr (headed_image beside from older is)

beside_left : (file : FileState) (tick from : ℕ) (left : List ℕ) → IsCrashOutcome file left → (0 < tick → IsWritten 17 file) → 0 < from → (tick ≡ from) ⊎ (17 ≤ length left) → 17 ≤ length left
beside_left file tick from left o written some (inl same) = outcome_written 17 file left (written (omega (arith, same, some))) o
beside_left file tick from left o written some (inr there) = there

images_left : (slot : Slot) (a b : FileState) (tick from : ℕ) (words older ia ib : List ℕ) (chosen : Slot)
    → ((left : List ℕ) → in_slot slot (IsCrashOutcome a) (IsCrashOutcome b) left → image_of left ≡ Open tick words)
    → (0 < tick → IsWritten 17 a × IsWritten 17 b) → IsCrashOutcome a ia → IsCrashOutcome b ib
    → of_slot chosen (image_of ia) (image_of ib) ≡ Open from older → 0 < from → (17 ≤ length ia) × (17 ≤ length ib)
images_left A a b tick from words older ia ib chosen newest written oa ob is some = (
  headed_image ia tick words (newest ia oa),
  beside_left b tick from ib ob
      (λ t. (written t).1) some (taken_or_open ia ib tick from words older (newest ia oa) (beside_or chosen A (image_of ia) (image_of ib) (Open from older) is)),
)
images_left B a b tick from words older ia ib chosen newest written oa ob is some = (
  beside_left a tick from ia oa (λ t. (written t).0) some
      (taken_or_open ib ia tick from words older (newest ib ob) (beside_or chosen B (image_of ia) (image_of ib) (Open from older) is)),
  headed_image ib tick words (newest ib ob),
)

images_left_by : KeeperLaws → (past : Past) (state : State) (first : List ℕ) (count : ℕ) (images : ImageFiles) (journal : Journal)
    → HasImages core_disk state images → HasPhase first past.history.ticks count images journal state.queue → AreWritten past state
    → (r : Recovery) (ia ib : List ℕ) (la lb : Segment) → IsBuilt r (image_of ia) (image_of ib) la lb
    → r.tick ≤ length past.history.ticks → IsCrashOutcome state.files.image_a.inner ia → IsCrashOutcome state.files.image_b.inner ib
    → 0 < r.from → (17 ≤ length ia) × (17 ≤ length ib)
images_left_by keepers past state first count (NoneYet images) (InStart start) has phase w r ia ib la lb built within oa ob some =
    absurd (omega (arith, some, within, built.ends, ap length phase.0.no_ticks))
images_left_by keepers past state first count (NoneYet images) (Writing logs) has phase w r ia ib la lb built within oa ob some = absurd phase
images_left_by keepers past state first count (Newest images) journal has phase w r ia ib la lb built within oa ob some =
    let left = keepers.images_are state.images (Newest images) state.files.image_a state.files.image_b has in
    let is : state.images.newest ≡ Some (images.slot, images.tick) = keepers.newest state.images (Newest images) state.files.image_a state.files.image_b has in
    images_left images.slot state.files.image_a.inner state.files.image_b.inner images.tick r.from images.words built.words ia ib r.slot left.newest
    (λ t. w.imaged (subst (λ n. 0 < newest_tick n) (sym is) t)) oa ob built.image some

pub none_is_empty : KeeperLaws → SafetyLaws → (past : Past) (state : State) → IsCoreAt past state → AreWritten past state → NoneIsEmpty (files_in state)
none_is_empty keepers safety past state c w ia ib la lb r may e =
    let again = restarts safety (replicate state.images.cells 0) past.history.ticks past.acknowledged ia ib la lb e.a e.b e.reads_a
    e.reads_b (IsCrashOutcome state.files.image_a.inner) (IsCrashOutcome state.files.image_b.inner) (IsCrashOutcome state.files.log_a.inner) (IsCrashOutcome state.files.log_b.inner)
    past.has_image (core_is_safe_for safety past state c) may.0 may.1 may.2 may.3 r e.holds in
    let built = safety.restarts.built (image_of ia) (image_of ib) e.a e.b r e.holds in (
      λ some. (
          let both = w.ticked (let t : 0 < length past.history.ticks = omega (arith, some, again.world.ended) in t) in
          (outcome_written 10 state.files.log_a.inner la both.0 may.2, outcome_written 1 state.files.log_b.inner lb both.1 may.3)),
      images_left_by keepers past state (replicate c.size 0) c.follows.count c.images c.place.journal c.has_images c.follows.in_step.phase w r ia ib e.a e.b built again.world.ended may.0 may.1,
    )

module _ (keepers : KeeperLaws) (safety : SafetyLaws) (past : Past) (old : State) (c : IsCoreAt past old) (w : AreWritten past old) where
  recovered_written : (next : Past) (tick from : ℕ) (ia ib la lb : List ℕ) (new : State) → next.history.ticks ≡ take tick past.history.ticks → MayLeave (files_in old) ia ib la lb
      → StandsOn old.images.cells ia ib la lb (answer.Recovered tick from) new → AreWritten next new
  recovered_written next tick from ia ib la lb new ticks may s =
      let r = s.0 in
      let none = none_is_empty keepers safety past old c w ia ib la lb r may s.1 in
      begun_written (Some (r.slot, r.from)) r.tick r.words ia ib la lb next new s.5
      (λ some. none.0 (let t : 0 < r.tick = omega (arith, some, ap (λ (t : List (List Action)). length t) ticks, length-take tick past.history.ticks, s.2) in t)) none.1

  -- the same files, keepers and ticks
  same : {like : State} (new : State) → new ≡ like → AreWritten past like → AreWritten past new
  same new is written = subst (AreWritten past) (sym is) written

  moves_keep : (asked : Move) (given : Answer) (new : State) → IsCoreAt (past_after past asked given) new → Answers past old asked given new → AreWritten (past_after past asked given) new
  moves_keep (move.Act action) answer.Did new k a = same new a.does.rest w
  moves_keep (move.Act action) given new k a = same new a.does w
  moves_keep (move.Get cell) given new k a = same new a.does w
  moves_keep move.End (answer.Ended tick) new k a = tick_written past (past_after past move.End (answer.Ended tick)) old new k a.does w
  moves_keep move.End given new k a = same new a.does w
  moves_keep move.Mark (answer.Started tick) new k a = same new a.does.1 w
  moves_keep move.Mark given new k a = same new a.does w
  moves_keep (move.Image fate) (answer.Image given) new k a = image_written keepers past fate old given new c a.does w
  moves_keep (move.Image fate) given new k a = same new a.does w
  moves_keep (move.Log fate) (answer.Log given) new k a = elim a.does [
    | inl waits ↦ same new waits.2 w
    | inr step ↦ log_written keepers past fate old given new c step w
  ]
  moves_keep (move.Log fate) given new k a = same new a.does w
  moves_keep (move.Cover tick) (answer.Log given) new k a = same new a.does.rest w
  moves_keep (move.Cover tick) given new k a = same new a.does w
  moves_keep (move.Crash left) (answer.Recovered tick from) new k a =
      recovered_written (past_after past (move.Crash left) (answer.Recovered tick from)) tick from left.image_a.items left.image_b.items left.log_a.items left.log_b.items new refl a.exact.0 a.does
  moves_keep (move.Crash left) answer.Blank new k a =
      begun_written None 0 _ left.image_a.items left.image_b.items left.log_a.items left.log_b.items (past_after past (move.Crash left) answer.Blank) new a.does.1
      (λ some. absurd (omega (arith, some))) (λ some. absurd (omega (arith, some)))
  moves_keep (move.Crash left) given new k a = same new a.does w

pub fresh_written : (cells : ℕ) (state : State) → BeginsFresh cells state → AreWritten fresh_past state
fresh_written cells state b =
    begun_written None 0 (replicate cells 0) [] [] [] [] fresh_past state b (λ some. absurd (omega (arith, some))) (λ some. absurd (omega (arith, some)))

pub stay_written : SafetyLaws → StayWritten
stay_written safety = record {
  fresh = fresh_written;
  moves = λ past old asked given new c k a w. moves_keep safety.keepers safety past old c w asked given new k a;
  none_empty = none_is_empty safety.keepers safety;
}
