-- The knowledge of each worker at its end, and the facts from their meetings, as plain data.
use Rattle.std.proofs.Common.{arith, ◌≡◌, inl, inr, ℕ, ◌+◌, ◌≤◌, max, Bool, true, false, All, List, [], ◌∷◌, ◌++◌, length, Option, Some, None, refl, sym, ap, ◌∙◌, subst, append-nil}
use Rattle.std.specs.Prelude.{Contains}
use Rattle.std.proofs.lemmas.Option.{slice_get_read, slice_get_within, get_or_from_slice_get}
use Rattle.std.proofs.lemmas.List.{length-append}
use Rattle.world_actions.specs.declared.action.Action.{Action}
use Rattle.image_files.specs.declared.phase.Phase.TheVariants as phases
use Rattle.image_files.specs.Image.{image_of}
use Rattle.image_files.specs.Images.{Images, ImageFiles, ImagesAre, ImageFilesAre, IsTarget, Newest, newest_in, round_in}
use Rattle.action_log.specs.Logs.{Logs}
use Rattle.action_log.specs.Queue.{QueueEnd}
use Rattle.action_log.specs.declared.record.Record.{Record}
use Rattle.recovery.specs.Events.{ticks_in, with_work}
use Rattle.recovery.proofs.Law.{Reached}
use Rattle.recovery.proofs.Events.{reached_max}
use Rattle.shared_capture.specs.SignalWord.{AreStored}
use Rattle.shared_capture.specs.declared.view.Round.{Round}
use Rattle.shared_capture.specs.declared.view.Snapshot.{Snapshot}
use Rattle.shared_capture.specs.Rounds.{Agree, snapshots_as}
use Rattle.shared_capture.specs.States.{FrontState, BackState, KnowsOpen}
use Rattle.workers.specs.declared.item.Item.{Item}
use Rattle.workers.specs.declared.item.Item.TheVariants.{Start, Tick, Switch, Stop}
use Rattle.workers.specs.declared.checkpointer.round.ImageWriter.{ImageWriter}
use Rattle.workers.specs.declared.log_writer.Log.{Log}
use Rattle.workers.specs.Items.{records_of, end_after, end_all, items_end, GoAll, AreNumbered}
use Rattle.workers.specs.Worlds.{World, Leads, begun, AreUnchanged, IsLate}
use Rattle.workers.specs.Mutating.{Playing, IsMutator}
use Rattle.workers.specs.Covering.{LeavesOut}
use Rattle.workers.specs.Logging.{content_in, Writes}
use Rattle.workers.specs.Imaging as imaging
use Rattle.workers.specs.Imaging.{images_after, AreInStep, ImagesStand, StandAfter}
use Rattle.image_files.specs.Progress.{newest_tick}
use Rattle.workers.proofs.Numbers.{go_snoc}
use Rattle.std.proofs.lemmas.Grind.{flat_map-append}
use Rattle.workers.specs.Items.{record_of}
use Rattle.workers.proofs.Imagings.{is_idle}
use Rattle.worker_steps.specs.Stopped.{BeginAt}
use Rattle.worker_steps.proofs.Parts.{one_or_none, images_with, IsPlayed, IsTaken, IsLogged}
use Rattle.disk_model.specs.declared.disk.Disk.{Ghosts}
use Rattle.worker_steps.proofs.Playing.{opened_by, begun_by}

-- ---- the mutator

fewer_unchanged : (before : List ℕ) (rounds more : List Round) → AreUnchanged before (rounds ++ more) → AreUnchanged before rounds
fewer_unchanged before [] more are = tt
fewer_unchanged before (r ∷ rounds) more are = (are.0, fewer_unchanged r.words rounds more are.1)

late_ticks : (items late : List Item) → IsLate items late → ticks_in (records_of late) ≡ []
late_ticks items late (inl none) = ap (λ l. ticks_in (records_of l)) none
late_ticks items late (inr one) = ap (λ l. ticks_in (records_of l)) one.1

go_late : (tick : ℕ) (more late : List Item) → GoAll (record { base = tick; count = 0 }) more → IsLate (Start tick ∷ more) late → GoAll (record { base = tick; count = 0 }) (more ++ late)
go_late tick more late go (inl none) =
    subst (λ l. GoAll (record { base = tick; count = 0 }) (more ++ l)) (sym none) (subst (GoAll (record { base = tick; count = 0 })) (sym (append-nil more)) go)
go_late tick more late go (inr one) =
    subst (λ l. GoAll (record { base = tick; count = 0 }) (more ++ l)) (sym one.1) (go_snoc (record { base = tick; count = 0 }) more (Switch one.0) go one.2)

leads_begun : (words : List ℕ) (tick : ℕ) (items late : List Item) (v : World) → Leads (begun words) ((Start tick ∷ items) ++ late) v → Leads (begun words) (items ++ late) v
leads_begun words tick items late v leads = subst (λ w. Leads w (items ++ late) v) leads.1 leads.2

pub was_played : (m : Playing) (tick : ℕ) (b : BeginAt tick m.to.items) → IsMutator m → AreNumbered m.to.items → IsPlayed m.opening tick b.0 m.front.rounds
was_played m tick b is numbered =
    let h = is.history in
    let late : IsLate (Start tick ∷ b.0) h.late = subst (λ l. IsLate l h.late) b.1 h.is_late in
    record {
      late = h.late;
      no_ticks = late_ticks (Start tick ∷ b.0) h.late late;
      numbered = go_late tick b.0 h.late (subst AreNumbered b.1 numbered) late;
      reported = h.reported;
      leads = leads_begun m.opening tick b.0 h.late h.reported (subst (λ l. Leads (begun m.opening) (l ++ h.late) h.reported) b.1 h.leads);
      rounds = h.rounds;
      unchanged = fewer_unchanged m.opening m.front.rounds _ is.unchanged;
    }

-- as many ticks ended as were pushed after the start
ticks_counted : (end : QueueEnd) (items : List Item) → GoAll end items → (end_all end items).base + (end_all end items).count ≡ end.base + end.count + length (ticks_in (records_of items))
ticks_counted end [] go = omega arith
ticks_counted end (Start number ∷ items) go = absurd go.0
ticks_counted end (Tick ended ∷ items) go = let rest = ticks_counted (end_after end (Tick ended)) items go.1 in omega (arith, rest)
ticks_counted end (Switch number ∷ items) go = let rest = ticks_counted (end_after end (Switch number)) items go.1 in let is = go.0.0 in omega (arith, rest, is)
ticks_counted end (Stop ∷ items) go = ticks_counted end items go.1

pub all_counted : (m : Playing) (ticks : List (List Action)) (b : BeginAt (length ticks) m.to.items) → IsMutator m
    → AreNumbered m.to.items → m.ended ≡ length (ticks ++ ticks_in (records_of m.to.items))
all_counted m ticks b is numbered =
    let behind = ticks_counted (record { base = length ticks; count = 0 }) b.0 (subst AreNumbered b.1 numbered) in
    let end : items_end m.to.items ≡ items_end (Start (length ticks) ∷ b.0) = ap items_end b.1 in
    let same : length (ticks_in (records_of m.to.items)) ≡ length (ticks_in (records_of b.0)) = ap (λ l. length (ticks_in (records_of l))) b.1 in
    omega (arith, behind, same, ap (λ (e : QueueEnd). e.base + e.count) end, is.counts.count, is.counts.all, length-append ticks (ticks_in (records_of m.to.items)))

-- ---- the rounds

-- the round in work
abbrev pub now_in : Bool → Snapshot → Option Snapshot
now_in true now = Some now
now_in false now = None

all_snapshots : (working : Bool) (done : List Snapshot) (now : Snapshot) → snapshots_as working done now ≡ done ++ one_or_none (now_in working now)
all_snapshots true done now = refl
all_snapshots false done now = sym (append-nil done)

all_rounds : (closed : Bool) (f : FrontState) (b : BackState) → KnowsOpen closed f b → length f.rounds ≡ length (b.done ++ one_or_none (now_in b.working b.now))
all_rounds true f b level = level.0 ∙ ap length (sym (append-nil b.done)) ∙ ap (λ w. length (b.done ++ one_or_none (now_in w b.now))) (sym level.1)
all_rounds false f b level = level.0 ∙ sym (length-append b.done (b.now ∷ [])) ∙ ap (λ w. length (b.done ++ one_or_none (now_in w b.now))) (sym level.1)

pub was_taken : (cells : ℕ) (f : FrontState) (b : BackState) (closed : Bool) → b.cells ≡ cells → All (λ (s : Snapshot). length s.taken ≡ b.cells) b.done
    → Agree f.rounds (snapshots_as b.working b.done b.now) → KnowsOpen closed f b → IsTaken cells f.rounds b.done (now_in b.working b.now)
was_taken cells f b closed is whole agree level = record {
  agree = subst (Agree f.rounds) (all_snapshots b.working b.done b.now) agree;
  all = all_rounds closed f b level;
  whole = subst (λ n. All (λ (s : Snapshot). length s.taken ≡ n) b.done) is whole;
}

-- ---- the images

-- once there is an image, there is one after any rounds
newest_after_rounds : (images : Images) (done : List Snapshot) → (after : Images) × (images_after (Newest images) done ≡ Newest after)
newest_after_rounds images [] = (images, refl)
newest_after_rounds images (s ∷ done) = newest_after_rounds (opened_by s images) done

-- the target of a round that the keeper hasn't begun is as it was before the round
found_are : (cells : ℕ) (now : Snapshot) (images : Images) (image_a image_b : List ℕ → Type 0) → images.round ≡ None
    → ImagesAre cells images image_a image_b → ImagesAre cells (begun_by now images) image_a image_b
found_are cells now images image_a image_b none are = record {
  newest = are.newest;
  target = λ left is. inl (subst (λ r. IsTarget cells images.before r (image_of left)) none (are.target left is));
}

-- the images are those of the rounds that were taken, the files are as these images say, and this is the newest one's tick
pub record AreImages (cells : ℕ) (first : Images) (done : List Snapshot) (now : Option Snapshot) (newest : ℕ) (image_a image_b : List ℕ → Type 0) : Type 0 where
  pub images : Images
  pub are_those : images_with (Newest first) done now ≡ Newest images
  pub left : ImagesAre cells images image_a image_b
  pub tick : newest ≡ images.tick

module _ {D : Type 0} (disk : Ghosts D) (first : Images) (writer : ImageWriter D) (back : BackState)
    (left : (images : ImageFiles) → ImagesStand disk writer images → ImageFilesAre writer.keeper.cells images (disk.may_leave writer.image_a) (disk.may_leave writer.image_b))
    (newest : (images : ImageFiles) → ImagesStand disk writer images → writer.keeper.newest ≡ newest_in images)
    (idle : (images : ImageFiles) → ImagesStand disk writer images → writer.keeper.phase ≡ phases.Idle → round_in images ≡ None) where
  abbrev Ends : Type 0
  Ends = AreImages writer.keeper.cells first back.done (now_in back.working back.now) (newest_tick writer.keeper.newest) (disk.may_leave writer.image_a) (disk.may_leave writer.image_b)

  -- the keeper is at the round
  ends_busy : (after : Images) → images_after (Newest first) back.done ≡ Newest after → back.working ≡ true
      → ImagesStand disk writer (imaging.with_work back.now (images_after (Newest first) back.done)) → Ends
  ends_busy after is working stands =
      let now : ImagesStand disk writer (Newest (begun_by back.now after)) = subst (λ i. ImagesStand disk writer (imaging.with_work back.now i)) is stands in
      record {
        images = begun_by back.now after;
        are_those = ap (λ w. images_with (Newest first) back.done (now_in w back.now)) working ∙ ap (imaging.with_work back.now) is;
        left = left (Newest (begun_by back.now after)) now;
        tick = ap newest_tick (newest (Newest (begun_by back.now after)) now);
      }

  -- the keeper has no round, and the back has none or has just found one
  ends_idle : (after : Images) → images_after (Newest first) back.done ≡ Newest after → (working : Bool) → back.working ≡ working → writer.keeper.phase ≡ phases.Idle
      → ImagesStand disk writer (images_after (Newest first) back.done) → Ends
  ends_idle after is false working rest stands =
      let now : ImagesStand disk writer (Newest after) = subst (ImagesStand disk writer) is stands in
      record {
        images = after;
        are_those = ap (λ w. images_with (Newest first) back.done (now_in w back.now)) working ∙ is;
        left = left (Newest after) now;
        tick = ap newest_tick (newest (Newest after) now);
      }
  ends_idle after is true working rest stands =
      let now : ImagesStand disk writer (Newest after) = subst (ImagesStand disk writer) is stands in
      record {
        images = begun_by back.now after;
        are_those = ap (λ w. images_with (Newest first) back.done (now_in w back.now)) working ∙ ap (imaging.with_work back.now) is;
        left = found_are writer.keeper.cells back.now after (disk.may_leave writer.image_a) (disk.may_leave writer.image_b) (idle (Newest after) now rest) (left (Newest after) now);
        tick = ap newest_tick (newest (Newest after) now);
      }

  pub images_end : AreInStep writer.keeper back → StandAfter disk (Newest first) writer back → Ends
  images_end step stand =
      let after = newest_after_rounds first back.done in
      elim (is_idle writer.keeper.phase) [
        | inl rest ↦ ends_idle after.0 after.1 back.working refl rest (stand.rest rest)
        | inr busy ↦ ends_busy after.0 after.1 (step.round busy).working (stand.round busy)
      ]

-- ---- the log

-- no tick that was loaded is above the newest image's
pub covered_at_most : (stored loaded : List ℕ) (most : ℕ) → AreStored stored loaded → All (λ (t : ℕ). t ≤ most) stored → (tick : ℕ) → Contains loaded tick → tick ≤ most
covered_at_most stored loaded most reported few tick has =
    elim (reported has.0 tick (slice_get_read loaded (length loaded) has.0 tick refl has.1 (sym has.2))) [
      | inl none ↦ omega (arith, none)
      | inr one ↦ (let at = few one.0 0 (slice_get_within stored one.0 tick one.1) in let is = get_or_from_slice_get stored one.0 tick 0 one.1 in omega (arith, at, is))
    ]

work_append : (switch : Option ℕ) (queue more : List Record) → with_work switch queue ++ more ≡ with_work switch (queue ++ more)
work_append None queue more = refl
work_append (Some tick) queue more = refl

module _ {D : Type 0} (disk : Ghosts D) (log : Log D) (ring : List Record) (covers : List ℕ) (acked : ℕ) (down : Bool) (start : Logs) (popped : List Record)
    (w : Writes disk log ring covers acked down (content_in start) popped) where
  pub was_logged : IsLogged (content_in start) popped covers w.logs
  was_logged = record {
    given = w.given;
    more = ring ++ w.lost;
    reported = w.reported;
    order = subst (λ l. LeavesOut covers popped (w.given ++ l)) (work_append w.logs.switch ring w.lost) w.order;
    one_job = w.one_job;
  }

  -- the acknowledged ticks are in the segment or in the newest image
  pub was_acknowledged : (newest : ℕ) → ((tick : ℕ) → Contains covers tick → tick ≤ newest) → Reached (max acked newest) (w.logs.base + length w.logs.kept) newest
  was_acknowledged newest few = reached_max acked newest (w.logs.base + length w.logs.kept) newest by_log (inr (omega arith))
    where
      by_log : Reached acked (w.logs.base + length w.logs.kept) newest
      by_log = elim w.acknowledged [
        | inl has ↦ inl has.kept
        | inr is ↦ inr (let most = few is.0 is.1 in let least = is.2 in omega (arith, most, least))
      ]

pub popped_first : (popped waiting pushed : List Item) → popped ++ waiting ≡ pushed → records_of popped ++ records_of waiting ≡ records_of pushed
popped_first popped waiting pushed order = sym (flat_map-append record_of popped waiting) ∙ ap records_of order
