-- A step of the checkpointer's round keeps keeper, files and back in step.
use Rattle.std.proofs.Common.{arith, ◌≡◌, ◌↔◌, ◌⊎◌, inl, inr, ℕ, suc, ◌+◌, ◌<◌, Bool, true, false, IsTrue, List, [], ◌∷◌, ◌++◌}
use Rattle.std.proofs.Common.{length, drop, Option, Some, None, All, refl, sym, ap, subst, ◌∙◌, length-append}
use Rattle.std.specs.Prelude.{⊤, get_or, if◌then◌else◌}
use Rattle.std.proofs.lemmas.List.Elements.{All-push}
use Rattle.file_format.specs.declared.slot.Slot.{Slot}
use Rattle.capture_core.specs.declared.taker.Taken.{Taken}
use Rattle.image_files.specs.declared.phase.Phase.{Phase}
use Rattle.image_files.specs.declared.phase.Phase.TheVariants.{Idle, Closing, Header, Down}
use Rattle.image_files.specs.declared.answer.ImageAnswer.{ImageAnswer}
use Rattle.image_files.specs.declared.answer.ImageAnswer.TheVariants as answer
use Rattle.image_files.specs.Images.{Round, ImageFiles, NoneYet, Newest, StepsImages, round_in, with_cell, with_round, with_taken, with_opened}
use Rattle.image_files.specs.Progress.{Progress, target_of, cells_taken, left_of, moves_left, begun_keeper, opened_keeper, newest_tick}
use Rattle.file_format.specs.Slot.{of_slot}
use Rattle.image_files.specs.Files.{FitsFiles}
use Rattle.image_files.specs.Keeper.{Fits}
use Rattle.image_files.specs.Steps.{IfOpened, OnWorking, HasCause}
use Rattle.image_files.specs.Taken.{filled_words, word_of}
use Rattle.shared_capture.specs.declared.view.Snapshot.{Snapshot}
use Rattle.shared_capture.specs.States.{BackState, TookBack, SameDone, FoundRound}
use Rattle.workers.specs.declared.checkpointer.round.ImageWriter.{ImageWriter}
use Rattle.workers.specs.Imaging.{round_of, with_work, images_after, newest_after, HasRound, AreInStep, RoundRuns}
use Rattle.workers.specs.Imaging.{ImagesStand, FollowsRounds, WriterFits, ReportsFaults, Imaging, IsCheckpointer}
use Rattle.disk_model.specs.declared.disk.Disk.{Ghosts}
use Rattle.disk_model.specs.FourFiles.{StaysFilled}
use Rattle.workers.specs.Publishing.{ArePublished}

-- ---- the words of a round

rest_of : (words : List ℕ) (n : ℕ) → get_or (drop 1 words) n 0 ≡ get_or words (suc n) 0
rest_of [] n = refl
rest_of (word ∷ words) n = refl

filled_more : (cells : List Taken) (cell : Taken) (old : List ℕ) → filled_words (cells ++ cell ∷ []) old ≡ filled_words cells old ++ word_of cell (get_or old (length cells) 0) ∷ []
filled_more [] cell old = refl
filled_more (c ∷ cells) cell old =
    ap (λ (l : List ℕ). word_of c (get_or old 0 0) ∷ l) (filled_more cells cell (drop 1 old) ∙ ap (λ (x : ℕ). filled_words cells (drop 1 old) ++ word_of cell x ∷ []) (rest_of old (length cells)))

pub filled_length : (cells : List Taken) (old : List ℕ) → length (filled_words cells old) ≡ length cells
filled_length [] old = refl
filled_length (c ∷ cells) old = let e = filled_length cells (drop 1 old) in omega (arith, e)

cell_more : (cell : Taken) (now : Snapshot) (words : List ℕ)
    → filled_words now.taken words ++ word_of cell (get_or words (length (filled_words now.taken words)) 0) ∷ [] ≡ filled_words (now.taken ++ cell ∷ []) words
cell_more cell now words =
    ap (λ (n : ℕ). filled_words now.taken words ++ word_of cell (get_or words n 0) ∷ []) (filled_length now.taken words) ∙ sym (filled_more now.taken cell words)

round_taken : (cell : Taken) (now next : Snapshot) (words : List ℕ) → next.tick ≡ now.tick → next.taken ≡ now.taken ++ cell ∷ []
    → with_cell cell words (record { tick = now.tick; taken = filled_words now.taken words }) ≡ record { tick = next.tick; taken = filled_words next.taken words }
round_taken cell now next words tick taken =
    let filled : filled_words now.taken words ++ word_of cell (get_or words (length (filled_words now.taken words)) 0) ∷ [] ≡ filled_words next.taken words =
    cell_more cell now words ∙ ap (λ (l : List Taken). filled_words l words) (sym taken) in
    ap (λ (l : List ℕ). record { tick = now.tick; taken = l }) filled ∙ ap (λ (n : ℕ). record { tick = n; taken = filled_words next.taken words }) (sym tick)

work_taken : (cell : Taken) (now next : Snapshot) (images : ImageFiles) → next.tick ≡ now.tick → next.taken ≡ now.taken ++ cell ∷ []
    → with_taken cell (with_work now images) ≡ with_work next images
work_taken cell now next (NoneYet images) tick taken = ap (λ (r : Round). NoneYet (record { round = Some r })) (round_taken cell now next [] tick taken)
work_taken cell now next (Newest images) tick taken = ap (λ (r : Round). Newest (record images { round = Some r })) (round_taken cell now next images.words tick taken)

work_opened : (now : Snapshot) (images : ImageFiles) (round : Round) → round_in (with_work now images) ≡ Some round
    → with_opened round (with_work now images) ≡ with_opened (round_of now images) images
work_opened now (NoneYet images) round is = (let same : round_of now (NoneYet images) ≡ round = (let e = is in cc) in ap (λ (r : Round). with_opened r (NoneYet images)) (sym same))
work_opened now (Newest images) round is = (let same : round_of now (Newest images) ≡ round = (let e = is in cc) in ap (λ (r : Round). with_opened r (Newest images)) (sym same))

-- ---- one more round

pub newest_more : (newest : Option (Slot × ℕ)) (done : List Snapshot) (s : Snapshot) → newest_after newest (done ++ s ∷ []) ≡ Some (target_of (newest_after newest done), s.tick)
newest_more newest [] s = refl
newest_more newest (t ∷ done) s = newest_more (Some (target_of newest, t.tick)) done s

images_more : (images : ImageFiles) (done : List Snapshot) (s : Snapshot) → images_after images (done ++ s ∷ []) ≡ with_opened (round_of s (images_after images done)) (images_after images done)
images_more images [] s = refl
images_more images (t ∷ done) s = images_more (with_opened (round_of t images) images) done s

-- ---- a step that opens no image

abbrev pub NotOpened : ImageAnswer → Type 0
NotOpened given = (tick : ℕ) → given ≡ answer.Opened tick → ⊥

-- the cells that a step took, by its answer
abbrev pub TakesCells : ImageAnswer → (keeper next : Progress) (old new : BackState) → Type 0
TakesCells given keeper next old new =
    ((new ≡ old) × IfOpened given ⊤ (cells_taken next ≡ cells_taken keeper)) ⊎ ((cell : Taken) × TookBack old (Some cell) new × (cells_taken next ≡ cells_taken keeper + 1))

-- the tick and the newest image after a step, by its answer
abbrev pub Ends : ImageAnswer → (keeper next : Progress) → Type 0
Ends given keeper next = IfOpened given (next ≡ opened_keeper keeper) ((next.tick ≡ keeper.tick) × (next.newest ≡ keeper.newest))

not_opened : (given : ImageAnswer) (P Q : Type 0) → NotOpened given → IfOpened given P Q → Q
not_opened answer.Idle P Q not q = q
not_opened answer.Working P Q not q = q
not_opened (answer.Opened tick) P Q not q = absurd (not tick refl)
not_opened answer.Down P Q not q = q

pub is_busy : (keeper : Progress) → 0 < left_of keeper → HasRound keeper
is_busy keeper some is = let none : left_of keeper ≡ 0 = ap (λ (p : Phase). moves_left p keeper) is in omega (arith, some, none)

pub stays_busy : (given : ImageAnswer) (keeper next : Progress) → NotOpened given → ((given ≡ answer.Idle) ↔ (keeper.phase ≡ Idle)) → ((given ≡ answer.Down) ↔ (next.phase ≡ Down))
    → OnWorking given (next.phase ≡ Idle → ⊥) → HasRound keeper → HasRound next
stays_busy answer.Idle keeper next not idle down on busy = absurd (busy (idle.0 refl))
stays_busy answer.Working keeper next not idle down on busy = on
stays_busy (answer.Opened tick) keeper next not idle down on busy = absurd (not tick refl)
stays_busy answer.Down keeper next not idle down on busy = λ is. (let e : Down ≡ Idle = sym (down.0 refl) ∙ is in cc e)

-- ---- the back after a step

-- the back is the same except for the cells taken
pub record SameBack (old new : BackState) : Type 0 where
  pub same : (new.pair ≡ old.pair) × (new.cells ≡ old.cells) × (new.loads ≡ old.loads)
  pub done : new.done ≡ old.done
  pub working : new.working ≡ old.working
  pub tick : new.now.tick ≡ old.now.tick

same_back : (given : ImageAnswer) (keeper next : Progress) (old new : BackState) → TakesCells given keeper next old new → SameBack old new
same_back given keeper next old new (inl stays) = record {
  same = (ap (λ (b : BackState). b.pair) stays.0, ap (λ (b : BackState). b.cells) stays.0, ap (λ (b : BackState). b.loads) stays.0);
  done = ap (λ (b : BackState). b.done) stays.0;
  working = ap (λ (b : BackState). b.working) stays.0;
  tick = ap (λ (b : BackState). b.now.tick) stays.0;
}
same_back given keeper next old new (inr takes) =
    let same = takes.1.same in
    record { same = (same.0, same.1, same.5); done = same.2; working = same.3; tick = same.4 }

taken_on : (given : ImageAnswer) (keeper next : Progress) (old new : BackState) → NotOpened given
    → TakesCells given keeper next old new → cells_taken keeper ≡ length old.now.taken → cells_taken next ≡ length new.now.taken
taken_on given keeper next old new not (inl stays) taken =
    not_opened given ⊤ (cells_taken next ≡ cells_taken keeper) not stays.1 ∙ (taken ∙ ap (λ (b : BackState). length b.now.taken) (sym stays.0))
taken_on given keeper next old new not (inr takes) taken =
    let more = ap (λ (l : List Taken). length l) takes.1.gives.2 in
    omega (arith, takes.2, taken, more, length-append old.now.taken (takes.0 ∷ []))

pub step_on : (given : ImageAnswer) (keeper next : Progress) (old new : BackState) → NotOpened given
    → TakesCells given keeper next old new → Ends given keeper next → next.cells ≡ keeper.cells → HasRound keeper
    → AreInStep keeper old → AreInStep next new
step_on given keeper next old new not takes ends cells busy step =
    let at = step.round busy in
    let same = same_back given keeper next old new takes in
    let ticks = (not_opened given (next ≡ opened_keeper keeper) ((next.tick ≡ keeper.tick) × (next.newest ≡ keeper.newest)) not ends).0 in
    record {
      cells = cells ∙ (step.cells ∙ sym same.same.1);
      round = λ _. record {
        working = same.working ∙ at.working;
        tick = ticks ∙ (at.tick ∙ sym same.tick);
        taken = taken_on given keeper next old new not takes at.taken;
      };
    }

pub runs_on : (given : ImageAnswer) (keeper next : Progress) (old new : BackState) → NotOpened given → TakesCells given keeper next old new
    → ((given ≡ answer.Idle) ↔ (keeper.phase ≡ Idle)) → ((given ≡ answer.Down) ↔ (next.phase ≡ Down)) → OnWorking given (next.phase ≡ Idle → ⊥) → HasRound keeper
    → AreInStep keeper old → RoundRuns old next new
runs_on given keeper next old new not takes idle down on busy step =
    let same = same_back given keeper next old new takes in
    record {
      same = same.same;
      in_work = λ _. (same.working ∙ (step.round busy).working, same.tick, same.done);
      done = λ is. absurd (stays_busy given keeper next not idle down on busy is);
    }

pub less_left : (given : ImageAnswer) (keeper next : Progress) (old new : BackState) → NotOpened given
    → ((given ≡ answer.Idle) ↔ (keeper.phase ≡ Idle)) → ((given ≡ answer.Down) ↔ (next.phase ≡ Down))
    → OnWorking given ((left_of next < left_of keeper) ⊎ ((cells_taken keeper < keeper.cells) × TookBack old None new × (new ≡ old) × (next ≡ keeper)))
    → 0 < left_of keeper → AreInStep keeper old → left_of next < left_of keeper
less_left answer.Idle keeper next old new not idle down works some step = absurd (is_busy keeper some (idle.0 refl))
less_left answer.Working keeper next old new not idle down (inl falls) some step = falls
less_left answer.Working keeper next old new not idle down (inr stuck) some step =
    let at = step.round (is_busy keeper some) in
    let all = stuck.1.gives.1 at.working in
    absurd (omega (arith, stuck.0, at.taken, all, step.cells))
less_left (answer.Opened tick) keeper next old new not idle down works some step = absurd (not tick refl)
less_left answer.Down keeper next old new not idle down works some step = (let none : left_of next ≡ 0 = ap (λ (p : Phase). moves_left p next) (down.0 refl) in omega (arith, none, some))

-- ---- the images

images_on : (given : ImageAnswer) (cells : ℕ) (first next : ImageFiles) (old new : BackState) → NotOpened given
    → StepsImages TookBack cells (with_work old.now (images_after first old.done)) given next old new → next ≡ with_work new.now (images_after first new.done)
images_on answer.Idle cells first next old new not s = s.1 ∙ ap (λ (b : BackState). with_work b.now (images_after first b.done)) (sym s.2)
images_on answer.Working cells first next old new not s = elim s.2 [
  | inl same ↦ same.0 ∙ ap (λ (b : BackState). with_work b.now (images_after first b.done)) (sym same.1)
  | inr cell ↦ cell.2
      ∙ (work_taken cell.0 old.now new.now (images_after first old.done) cell.1.same.4 cell.1.gives.2 ∙ ap (λ (d : List Snapshot). with_work new.now (images_after first d)) (sym cell.1.same.2))
]
images_on (answer.Opened tick) cells first next old new not s = absurd (not tick refl)
images_on answer.Down cells first next old new not s = s.2 ∙ ap (λ (b : BackState). with_work b.now (images_after first b.done)) (sym s.3)

module _ {D : Type 0} (disk : Ghosts D) where
  -- the effect of a step on the images that keeper and files represent
  abbrev pub GoesOn : ImageAnswer → (old new : ImageWriter D) (back next : BackState) → Type 0
  GoesOn given old new back next = IsTrue disk.honest → (images : ImageFiles) → ImagesStand disk old images
      → (after : ImageFiles) × ImagesStand disk new after × StepsImages TookBack old.keeper.cells images given after back next

  pub follows_on : (given : ImageAnswer) (opening old new : ImageWriter D) (back next : BackState) → NotOpened given
      → TakesCells given old.keeper new.keeper back next → Ends given old.keeper new.keeper
      → ((given ≡ answer.Idle) ↔ (old.keeper.phase ≡ Idle)) → ((given ≡ answer.Down) ↔ (new.keeper.phase ≡ Down)) → OnWorking given (new.keeper.phase ≡ Idle → ⊥) → HasRound old.keeper
      → GoesOn given old new back next → FollowsRounds disk opening old back → FollowsRounds disk opening new next
  follows_on given opening old new back next not takes ends idle down on busy goes f =
      let same = same_back given old.keeper new.keeper back next takes in
      let newest = (not_opened given (new.keeper ≡ opened_keeper old.keeper) ((new.keeper.tick ≡ old.keeper.tick) × (new.keeper.newest ≡ old.keeper.newest)) not ends).1 in
      record {
        newest = newest ∙ (f.newest ∙ ap (λ (d : List Snapshot). newest_after opening.keeper.newest d) (sym same.done));
        whole = subst (λ (d : List Snapshot). All (λ (s : Snapshot). length s.taken ≡ next.cells) d) (sym same.done)
            (subst (λ (n : ℕ). All (λ (s : Snapshot). length s.taken ≡ n) back.done) (sym same.same.1) f.whole);
        stands = λ is first stood.
            let went = goes is (with_work back.now (images_after first back.done)) ((f.stands is first stood).round busy) in
            record {
              rest = λ idles. absurd (stays_busy given old.keeper new.keeper not idle down on busy idles);
              round = λ _. subst (λ (i : ImageFiles). ImagesStand disk new i) (images_on given old.keeper.cells first went.0 back next not went.2) went.1;
            };
      }

  -- the image is opened, and the back ends the round
  pub follows_opened : (tick : ℕ) (opening old new : ImageWriter D) (back next done : BackState)
      → TakesCells (answer.Opened tick) old.keeper new.keeper back next → new.keeper ≡ opened_keeper old.keeper
      → cells_taken old.keeper ≡ old.keeper.cells → HasRound old.keeper → AreInStep old.keeper back
      → done.done ≡ next.done ++ next.now ∷ [] → done.cells ≡ next.cells
      → GoesOn (answer.Opened tick) old new back next → FollowsRounds disk opening old back → FollowsRounds disk opening new done
  follows_opened tick opening old new back next done (inr takes) opened all busy step more cells goes f =
      absurd (let kept : cells_taken new.keeper ≡ cells_taken old.keeper = ap cells_taken opened in omega (arith, takes.2, kept))
  follows_opened tick opening old new back next done (inl stays) opened all busy step more cells goes f =
      let at = step.round busy in
      let grown : done.done ≡ back.done ++ back.now ∷ [] = more ∙ ap (λ (b : BackState). b.done ++ b.now ∷ []) stays.0 in
      let wide : done.cells ≡ back.cells = cells ∙ ap (λ (b : BackState). b.cells) stays.0 in
      let whole : length back.now.taken ≡ back.cells = sym at.taken ∙ (all ∙ step.cells) in
      let newest : new.keeper.newest ≡ Some (target_of (newest_after opening.keeper.newest back.done), back.now.tick) =
      ap (λ (k : Progress). k.newest) opened
      ∙ (ap (λ (n : Option (Slot × ℕ)). Some (target_of n, old.keeper.tick)) f.newest ∙ ap (λ (t : ℕ). Some (target_of (newest_after opening.keeper.newest back.done), t)) at.tick) in
      record {
        newest = newest ∙ (sym (newest_more opening.keeper.newest back.done back.now) ∙ ap (λ (d : List Snapshot). newest_after opening.keeper.newest d) (sym grown));
        whole = subst (λ (d : List Snapshot). All (λ (s : Snapshot). length s.taken ≡ done.cells) d) (sym grown)
            (subst (λ (n : ℕ). All (λ (s : Snapshot). length s.taken ≡ n) (back.done ++ back.now ∷ [])) (sym wide)
            (All-push (λ (s : Snapshot). length s.taken ≡ back.cells) back.done back.now f.whole whole));
        stands = λ is first stood.
            let before = images_after first back.done in
            let went = goes is (with_work back.now before) ((f.stands is first stood).round busy) in
            let s = went.2 in
            let after : went.0 ≡ images_after first done.done =
            s.4 ∙ (work_opened back.now before s.0 s.1 ∙ (sym (images_more first back.done back.now) ∙ ap (images_after first) (sym grown))) in
            record {
              rest = λ _. subst (λ (i : ImageFiles). ImagesStand disk new i) after went.1;
              round = λ runs. absurd (runs (ap (λ (k : Progress). k.phase) opened));
            };
      }

-- ---- a round from step to step

-- ---- failures

not_down : (keeper : Progress) → 0 < left_of keeper → keeper.phase ≡ Down → ⊥
not_down keeper some is = let none : left_of keeper ≡ 0 = ap (λ (p : Phase). moves_left p keeper) is in omega (arith, some, none)

module _ {D : Type 0} (faults : D → ℕ) where
  -- the failures of a step, by its answer
  abbrev pub Causes : ImageAnswer → (old new : ImageWriter D) → Type 0
  Causes given old new = HasCause given old.keeper.phase (faults old.image_a) (faults new.image_a) (faults old.image_b) (faults new.image_b)

  pub faults_step : (given : ImageAnswer) (old new : ImageWriter D) → 0 < left_of old.keeper → ((given ≡ answer.Down) ↔ (new.keeper.phase ≡ Down)) → Causes given old new → ReportsFaults faults old new
  faults_step answer.Idle old new some down cause = record { down = λ is. absurd (let e = down.1 is in cc); up = λ _. cause }
  faults_step answer.Working old new some down cause = record { down = λ is. absurd (let e = down.1 is in cc); up = λ _. cause }
  faults_step (answer.Opened tick) old new some down cause = record { down = λ is. absurd (let e = down.1 is in cc); up = λ _. cause }
  faults_step answer.Down old new some down (inl was) = absurd (not_down old.keeper some was)
  faults_step answer.Down old new some down (inr failed) = record { down = λ _. failed; up = λ up. absurd (up (down.0 refl)) }

-- ---- a turn

pub begun_busy : (tick : ℕ) (keeper : Progress) → HasRound (begun_keeper tick keeper)
begun_busy tick keeper is = by_shut keeper.target_shut is
  where
    by_shut : (shut : Bool) → (if shut then Header else Closing) ≡ Idle → ⊥
    by_shut true e = cc e
    by_shut false e = cc e

-- the round of this tick is in work, and no cell of it is taken
pub record IsFresh (number : ℕ) (back : BackState) : Type 0 where
  pub working : back.working ≡ true
  pub tick : back.now.tick ≡ number
  pub none : back.now.taken ≡ []

pub fresh_found : (tick : ℕ) (back found : BackState) → FoundRound back tick found → IsFresh tick found
fresh_found tick back found is = record { working = is.1; tick = is.2; none = is.3 }

begun_images : (now : Snapshot) (tick : ℕ) (images : ImageFiles) → now.tick ≡ tick → now.taken ≡ [] → with_round tick images ≡ with_work now images
begun_images now tick (NoneYet images) is none = rw (is, none) refl
begun_images now tick (Newest images) is none = rw (is, none) refl

module _ {D : Type 0} (disk : Ghosts D) where
  -- a round may begin on these files
  abbrev pub Begins : (tick : ℕ) → ImageWriter D → (next : ImageWriter D) → Type 0
  Begins tick old next = (images : ImageFiles) → ImagesStand disk old images → ImagesStand disk next (with_round tick images)

  pub begun_follows : (tick : ℕ) (opening old next : ImageWriter D) (back found : BackState)
      → next.keeper ≡ begun_keeper tick old.keeper → old.keeper.phase ≡ Idle → SameDone back found → IsFresh tick found
      → Begins tick old next → FollowsRounds disk opening old back → FollowsRounds disk opening next found
  begun_follows tick opening old next back found begun idle same is begins f = record {
    newest = ap (λ (k : Progress). k.newest) begun ∙ (f.newest ∙ ap (λ (d : List Snapshot). newest_after opening.keeper.newest d) (sym same.2));
    whole = subst (λ (d : List Snapshot). All (λ (s : Snapshot). length s.taken ≡ found.cells) d) (sym same.2)
        (subst (λ (n : ℕ). All (λ (s : Snapshot). length s.taken ≡ n) back.done) (sym same.1) f.whole);
    stands = λ sure first stood.
        let before = images_after first back.done in
        let now : ImagesStand disk next (with_work found.now before) =
        subst (λ (i : ImageFiles). ImagesStand disk next i) (begun_images found.now tick before is.tick is.none) (begins before ((f.stands sure first stood).rest idle)) in
        record {
          rest = λ over. absurd (begun_busy tick old.keeper (sym (ap (λ (k : Progress). k.phase) begun) ∙ over));
          round = λ _. subst (λ (d : List Snapshot). ImagesStand disk next (with_work found.now (images_after first d))) (sym same.2) now;
        };
  }

  pub checkpointer_goes_on : (next : Imaging D) (found : BackState) → AreInStep next.images.keeper next.back
      → next.opening.keeper.cells ≡ found.cells → (IsTrue disk.honest → WriterFits disk next.images) → FollowsRounds disk next.opening next.images next.back
      → RoundRuns found next.images.keeper next.back → ArePublished next.images.keeper.newest next.back.done next.covers
      → (newest : Option (Slot × ℕ)) → newest ≡ newest_after next.opening.keeper.newest found.done → newest_tick newest < found.now.tick
      → (IsTrue disk.honest → StaysFilled disk next.opening.image_a next.images.image_a × StaysFilled disk next.opening.image_b next.images.image_b)
      → IsCheckpointer disk next
  checkpointer_goes_on next found step cells fits follows runs published newest was newer filled = record {
    step = step;
    cells = cells ∙ sym runs.same.1;
    fits = fits;
    follows = follows;
    published = published;
    fresh = λ idle works. absurd (let e : false ≡ true = sym (runs.done idle).4 ∙ works in cc e);
    newer = λ busy.
        let w = runs.in_work busy in
        let kept : next.images.keeper.newest ≡ newest = follows.newest ∙ (ap (newest_after next.opening.keeper.newest) w.2 ∙ sym was) in
        omega (arith, newer, ap newest_tick kept, w.1);
    filled = filled;
  }

-- ---- a step

-- the result of a look that found a round, if the keeper hasn't begun it
pub fresh_looked : (number : ℕ) (given : Option ℕ) (back found : BackState) → given ≡ Some number
    → (back.working ≡ true → (given ≡ Some back.now.tick) × (found ≡ back)) → (back.working ≡ false → FoundRound back number found)
    → (back.working ≡ true → back.now.taken ≡ []) → IsFresh number found
fresh_looked number given back found is known looked none = by_working back.working refl
  where
    by_working : (working : Bool) → back.working ≡ working → IsFresh number found
    by_working false off = fresh_found number back found (looked off)
    by_working true on =
        let k = known on in
        let same : Some back.now.tick ≡ Some number = sym k.0 ∙ is in
        let tick : back.now.tick ≡ number = cc in
        record {
          working = ap (λ (b : BackState). b.working) k.1 ∙ on;
          tick = ap (λ (b : BackState). b.now.tick) k.1 ∙ tick;
          none = ap (λ (b : BackState). b.now.taken) k.1 ∙ none on;
        }

pub is_idle : (phase : Phase) → (phase ≡ Idle) ⊎ (phase ≡ Idle → ⊥)
is_idle Idle = inl refl
is_idle phase = inr (λ e. cc e)

-- the keeper's round is begun
pub begun_in_step : (tick : ℕ) (keeper next : Progress) (back found : BackState) → next ≡ begun_keeper tick keeper
    → found.cells ≡ back.cells → IsFresh tick found → AreInStep keeper back → AreInStep next found
begun_in_step tick keeper next back found begun cells is step = record {
  cells = ap (λ (k : Progress). k.cells) begun ∙ (step.cells ∙ sym cells);
  round = λ _. record {
    working = is.working;
    tick = ap (λ (k : Progress). k.tick) begun ∙ sym is.tick;
    taken = ap cells_taken begun ∙ sym (ap (λ (l : List Taken). length l) is.none);
  };
}

fits_begun : (keeper next : Progress) (image_a image_b : List ℕ) → next.newest ≡ keeper.newest
    → ((target newest : List ℕ) → Fits keeper target newest → Fits next target newest) → FitsFiles keeper image_a image_b → FitsFiles next image_a image_b
fits_begun keeper next image_a image_b same keeps fits =
    subst (λ (n : Option (Slot × ℕ)). Fits next (of_slot (target_of n) image_a image_b) (of_slot (target_of n) image_b image_a)) (sym same) (keeps _ _ fits)

module _ {D : Type 0} (disk : Ghosts D) where
  pub checkpointer_begins : (old : Imaging D) (number : ℕ) (next : ImageWriter D) (found : BackState) → IsCheckpointer disk old
      → next.keeper ≡ begun_keeper number old.images.keeper → next.image_a ≡ old.images.image_a
      → next.image_b ≡ old.images.image_b → old.images.keeper.phase ≡ Idle → SameDone old.back found → IsFresh number found → newest_tick old.images.keeper.newest < number
      → ((target newest : List ℕ) → Fits old.images.keeper target newest → Fits next.keeper target newest) → Begins disk number old.images next
      → IsCheckpointer disk (record { back = found; covers = old.covers; images = next; opening = old.opening; over = old.over })
  checkpointer_begins old number next found is begun same_a same_b idle same fresh newer fits begins =
      let newest : next.keeper.newest ≡ old.images.keeper.newest = ap (λ (k : Progress). k.newest) begun in
      record {
        step = begun_in_step number old.images.keeper next.keeper old.back found begun same.1 fresh is.step;
        cells = is.cells ∙ sym same.1;
        fits = λ sure. subst (λ a. FitsFiles next.keeper (disk.content a) (disk.content next.image_b)) (sym same_a)
            (subst (λ b. FitsFiles next.keeper (disk.content old.images.image_a) (disk.content b)) (sym same_b) (fits_begun old.images.keeper next.keeper _ _ newest fits (is.fits sure)));
        follows = begun_follows disk number old.opening old.images next old.back found begun idle same fresh begins is.follows;
        published =
            subst (λ (d : List Snapshot). ArePublished next.keeper.newest d old.covers) (sym same.2)
            (subst (λ (n : Option (Slot × ℕ)). ArePublished n old.back.done old.covers) (sym newest) is.published);
        fresh = λ _ _. fresh.none;
        newer = λ _. omega (arith, newer, ap newest_tick newest, fresh.tick);
        filled = λ sure. (subst (StaysFilled disk old.opening.image_a) (sym same_a) (is.filled sure).0, subst (StaysFilled disk old.opening.image_b) (sym same_b) (is.filled sure).1);
      }
