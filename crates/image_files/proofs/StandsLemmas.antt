-- After a step the keeper and its files still represent images.
use Rattle.std.proofs.Common.{rules}
use Rattle.std.proofs.Common.{◌≡◌, ◌⊎◌, inl, inr, ◌↔◌, ℕ, List, Option, Some, None, length, refl, sym, ◌∙◌, ap, subst, Bool, IsTrue}
use Rattle.std.specs.Prelude.{IfNone, option_map, ⊤}
use Rattle.disk_model.specs.Disk.{Within}
use Rattle.file_format.specs.declared.slot.Slot.{Slot}
use Rattle.file_format.specs.declared.slot.Slot.TheVariants.{A, B}
use Rattle.file_format.specs.Slot.{other_slot, of_slot, in_slot, beside_slot}
use Rattle.capture_core.specs.declared.taker.Taken.{Taken}
use Rattle.image_files.specs.declared.phase.Phase.{Phase}
use Rattle.image_files.specs.declared.phase.Phase.TheVariants.{Idle, Taking, Down}
use Rattle.image_files.specs.declared.answer.ImageAnswer.{ImageAnswer}
use Rattle.image_files.specs.declared.answer.ImageAnswer.TheVariants as answer
use Rattle.image_files.specs.Image.{Image, image_of}
use Rattle.image_files.specs.Images.{Round, ImageFiles, StepsImages, round_in, with_cell, with_taken, with_opened}
use Rattle.image_files.specs.Progress.{Progress, target_of, newest_words, done, round_so_far, round_in_phase, round_of, cells_taken, opened_keeper}
use Rattle.image_files.specs.Keeper.{Fits, Endures}
use Rattle.image_files.specs.Steps.{IfOpened, OnOpened, OnWorking, TookWord, IsOpenedImage}
use Rattle.image_files.specs.Calls.{TookCell}
use Rattle.image_files.proofs.TakeLemmas.{length-done}
use Rattle.image_files.specs.Files.{Stands, StandsFor, IsHeld, before_in}

-- the facts of a step on a keeper, its taker, and the contents and outcomes of its two files
pub record Stepped {S : Type 0} (took : S → Option Taken → S → Type 0) (honest : Bool) (given : ImageAnswer) (old new : Progress)
    (from to : S) (target target' newest newest' : List ℕ) (left left' beside beside' : List ℕ → Type 0) : Type 0 where
  pub fits : IsTrue honest → IfOpened given (Fits new newest' target') (Fits new target' newest')
  pub endures : IsTrue honest → (before : Image) → Endures old before target newest left beside
      → IfOpened given (Endures new (image_of newest') newest' target' beside' left') (Endures new before target' newest' left' beside')
  pub opened_image : IsTrue honest → OnOpened given (IsOpenedImage old (done old target newest) target' left')
  pub took_cell : old.phase ≡ Taking → (cell : Option Taken) × took from cell to × IfNone cell (to ≡ from) × TookCell cell old new
      × (IsTrue honest → TookWord cell old newest (done old target newest) (done new target' newest'))
  pub not_took : (old.phase ≡ Taking → ⊥) → to ≡ from
  pub words : (old.phase ≡ Taking → ⊥) → IsTrue honest → IfOpened given ⊤ (done new target' newest' ≡ done old target newest)
  pub goes_on : OnWorking given (new.phase ≡ Idle → ⊥)
  pub takes : old.phase ≡ Taking → given ≡ answer.Working
  pub idle : (given ≡ answer.Idle) ↔ (old.phase ≡ Idle)
  pub down : (given ≡ answer.Down) ↔ (new.phase ≡ Down)
  pub cells : new.cells ≡ old.cells
  pub ended : IfOpened given (new ≡ opened_keeper old) ((new.tick ≡ old.tick) × (new.newest ≡ old.newest))
  pub rests : (old.phase ≡ Idle) ⊎ (old.phase ≡ Down) → new ≡ old
  pub stays : IsTrue honest → (newest' ≡ newest) × Within beside beside'

is_phase : (phase : Phase) → (phase ≡ Taking) ⊎ (phase ≡ Taking → ⊥)
is_phase b = search rules

-- a round is in work in each other phase
in_work : (phase : Phase) (round : Round) → (phase ≡ Idle → ⊥) → round_in_phase phase round ≡ Some round
in_work b round busy = search rules

held_round : (images : ImageFiles) (keeper : Progress) (target newest : List ℕ) → IsHeld images keeper target newest → round_in images ≡ round_of keeper target newest
held_round b keeper target newest held = search rules

-- the round in work
pub round_stands : (images : ImageFiles) (keeper : Progress) (target newest : List ℕ) → IsHeld images keeper target newest → (keeper.phase ≡ Idle → ⊥)
    → (round : Round) × (round_in images ≡ Some round) × (round.tick ≡ keeper.tick) × (length round.taken ≡ cells_taken keeper)
round_stands images keeper target newest held busy = search (rules, held_round, in_work, length-done)

words_on : (old new : Progress) (newest newest' : List ℕ) → new.newest ≡ old.newest → new.cells ≡ old.cells → newest' ≡ newest → newest_words new newest' ≡ newest_words old newest
words_on old new newest newest' same cells stays = rw (same, cells, stays) refl

-- the images that are held stay if the round so far stays
held_on : (images : ImageFiles) (old new : Progress) (target target' newest newest' : List ℕ) → new.newest ≡ old.newest
    → new.cells ≡ old.cells → newest' ≡ newest → round_of new target' newest' ≡ round_of old target newest
    → IsHeld images old target newest → IsHeld images new target' newest'
held_on b old new target target' newest newest' same cells stays round held = search (rules, words_on)

-- a take leaves how the target read before the round
before_taken : (cell : Taken) (images : ImageFiles) → before_in (with_taken cell images) ≡ before_in images
before_taken cell b = search rules

idle_round : (keeper : Progress) (target newest : List ℕ) → keeper.phase ≡ Idle → round_of keeper target newest ≡ None
idle_round keeper target newest is = ap (λ (p : Phase). round_in_phase p (round_so_far keeper target newest)) is

module _ {S : Type 0} (took : S → Option Taken → S → Type 0) (honest : Bool) (sure : IsTrue honest) (old new : Progress)
    (from to : S) (target target' newest newest' : List ℕ) (left left' beside beside' : List ℕ → Type 0)
    (images : ImageFiles) (stands : StandsFor old images target newest left beside) where
  abbrev Step : ImageAnswer → Type 0
  Step given = Stepped took honest given old new from to target target' newest newest' left left' beside beside'

  -- the facts that a step with this answer keeps
  abbrev Kept : ImageAnswer → Type 0
  Kept given =
      (next : ImageFiles) × IfOpened given (StandsFor new next newest' target' beside' left') (StandsFor new next target' newest' left' beside') × StepsImages took old.cells images given next from to

  abbrev round : Round
  round = round_so_far old target newest

  round_is : (old.phase ≡ Idle → ⊥) → round_in images ≡ Some round
  round_is busy = held_round images old target newest stands.held ∙ in_work old.phase round busy

  -- the round so far stays
  same_round : (new.phase ≡ Idle → ⊥) → (old.phase ≡ Idle → ⊥) → new.tick ≡ old.tick → done new target' newest' ≡ done old target newest → round_of new target' newest' ≡ round_of old target newest
  same_round busy_new busy_old tick words = search (rules, in_work)

  idle_kept : Step answer.Idle → Kept answer.Idle
  idle_kept step = search (rules, held_on, held_round, idle_round)

  down_kept : Step answer.Down → Kept answer.Down
  down_kept step =
      let busy_old : old.phase ≡ Idle → ⊥ = λ is. let e = step.idle.1 is in cc e in
      let busy_new : new.phase ≡ Idle → ⊥ = λ is. let e = step.down.0 refl in cc (e, is) in
      let not_taking : old.phase ≡ Taking → ⊥ = λ is. let e = step.takes is in cc e in (
        images,
        record {
          fits = step.fits sure;
          endures = step.endures sure (before_in images) stands.endures;
          held = held_on images old new target target' newest newest' step.ended.1 step.cells (step.stays sure).0 (same_round busy_new busy_old step.ended.0 (step.words not_taking sure)) stands.held;
        },
        (round, round_is busy_old, refl, step.not_took not_taking),
      )

  -- a cell is taken
  taken_held : (cell : Taken) → TookWord (Some cell) old newest (done old target newest) (done new target' newest') → (new.phase ≡ Idle → ⊥) → (old.phase ≡ Idle → ⊥)
      → new.tick ≡ old.tick → new.newest ≡ old.newest → new.cells ≡ old.cells → newest' ≡ newest
      → (images : ImageFiles) → IsHeld images old target newest → IsHeld (with_taken cell images) new target' newest'
  taken_held cell words busy_new busy_old tick same cells stays images held = by_images images held
    where
      round_after : (ws : List ℕ) → ws ≡ newest_words old newest → (before : Option Round) → before ≡ round_of old target newest → option_map (with_cell cell ws) before ≡ round_of new target' newest'
      round_after ws is before so_far =
          let taken : with_cell cell ws round ≡ round_so_far new target' newest' = rw (is, tick, words) refl in
          ap (option_map (with_cell cell ws)) (so_far ∙ in_work old.phase round busy_old) ∙ ap Some taken ∙ sym (in_work new.phase (round_so_far new target' newest') busy_new)

      by_images : (images : ImageFiles) → IsHeld images old target newest → IsHeld (with_taken cell images) new target' newest'
      by_images b held = search (rules, words_on)

  -- the image of the round is opened
  opened_stands : (tick : ℕ) → new ≡ opened_keeper old → IsOpenedImage old (done old target newest) target' left' tick
      → newest' ≡ newest → Fits new newest' target' → Endures new (image_of newest') newest' target' beside' left'
      → (images : ImageFiles) → Fits old target newest → IsHeld images old target newest → StandsFor new (with_opened round images) newest' target' beside' left'
  opened_stands tick is image stays fits endures images old_fits held = by_images images held
    where
      newest_is : new.newest ≡ Some (target_of old.newest, old.tick)
      newest_is = ap (λ (k : Progress). k.newest) is

      words_are : done old target newest ≡ newest_words new target'
      words_are = search rules

      idle_now : None ≡ round_of new newest' target'
      idle_now = sym (idle_round new newest' target' (ap (λ (k : Progress). k.phase) is))

      by_images : (images : ImageFiles) → IsHeld images old target newest → StandsFor new (with_opened round images) newest' target' beside' left'
      by_images b held = search (rules, idle_now, words_are)

  working_kept : Step answer.Working → Kept answer.Working
  working_kept step = elim (is_phase old.phase) [
    | inr not_taking ↦ (images, stays_so (step.words not_taking sure), (round, round_is busy_old, inl (refl, step.not_took not_taking)))
    | inl taking ↦ let cell = step.took_cell taking in by_cell cell.0 cell.1 cell.2 (cell.4 sure)
  ]
    where
      busy_old : old.phase ≡ Idle → ⊥
      busy_old is = let e = step.idle.1 is in cc e

      stays_so : done new target' newest' ≡ done old target newest → StandsFor new images target' newest' left' beside'
      stays_so words = record {
        fits = step.fits sure;
        endures = step.endures sure (before_in images) stands.endures;
        held = held_on images old new target target' newest newest' step.ended.1 step.cells (step.stays sure).0 (same_round step.goes_on busy_old step.ended.0 words) stands.held;
      }

      by_cell : (cell : Option Taken) → took from cell to → IfNone cell (to ≡ from) → TookWord cell old newest (done old target newest) (done new target' newest') → Kept answer.Working
      by_cell None was unchanged words = (images, stays_so words, (round, round_is busy_old, inl (refl, unchanged)))
      by_cell (Some cell) was unchanged words =
          let fits : Fits new target' newest' = step.fits sure in
          let endures : Endures new (before_in images) target' newest' left' beside' = step.endures sure (before_in images) stands.endures in (
            with_taken cell images,
            record {
              fits = fits;
              endures = subst (λ (before : Image). Endures new before target' newest' left' beside') (sym (before_taken cell images)) endures;
              held = taken_held cell words step.goes_on busy_old step.ended.0 step.ended.1 step.cells (step.stays sure).0 images stands.held;
            },
            (round, round_is busy_old, inr (cell, was, refl)),
          )

  opened_kept : (tick : ℕ) → Step (answer.Opened tick) → Kept (answer.Opened tick)
  opened_kept tick step =
      let busy_old : old.phase ≡ Idle → ⊥ = λ is. let e = step.idle.1 is in cc e in
      let not_taking : old.phase ≡ Taking → ⊥ = λ is. let e = step.takes is in cc e in (
        with_opened round images,
        opened_stands tick step.ended (step.opened_image sure) (step.stays sure).0 (step.fits sure) (step.endures sure (before_in images) stands.endures) images stands.fits stands.held,
        (round, round_is busy_old, (step.opened_image sure).of_the_round, (step.opened_image sure).whole, refl, step.not_took not_taking),
      )

  pub kept : (given : ImageAnswer) → Step given → Kept given
  kept answer.Idle step = idle_kept step
  kept answer.Working step = working_kept step
  kept (answer.Opened tick) step = opened_kept tick step
  kept answer.Down step = down_kept step

-- ---- by the files' names

module _ {S : Type 0} (took : S → Option Taken → S → Type 0) (honest : Bool) (sure : IsTrue honest) (given : ImageAnswer)
    (old new : Progress) (from to : S) (a a' b b' : List ℕ) (left_a left_a' left_b left_b' : List ℕ → Type 0) (images : ImageFiles) where
  -- the facts that a step by the files' names keeps
  abbrev FilesKept : Type 0
  FilesKept = (next : ImageFiles) × Stands new next a' b' left_a' left_b' × StepsImages took old.cells images given next from to

  abbrev StandsAt : ImageFiles → Slot → Type 0
  StandsAt next target = StandsFor new next (of_slot target a' b') (of_slot target b' a') (in_slot target left_a' left_b') (beside_slot target left_a' left_b')

  -- if the image was opened, the files have exchanged their parts
  at_target : (given : ImageAnswer) (next : ImageFiles) (slot : Slot) → slot ≡ target_of old.newest → IfOpened given (new ≡ opened_keeper old) ((new.tick ≡ old.tick) × (new.newest ≡ old.newest))
      → IfOpened given (StandsAt next (other_slot slot)) (StandsAt next slot) → StandsAt next (target_of new.newest)
  at_target (answer.Opened tick) next slot is ended stands =
      let to : target_of new.newest ≡ other_slot slot = ap (λ (k : Progress). target_of k.newest) ended ∙ ap other_slot (sym is) in
      subst (StandsAt next) (sym to) stands
  at_target answer.Idle next slot is ended stands = subst (StandsAt next) (is ∙ sym (ap target_of ended.1)) stands
  at_target answer.Working next slot is ended stands = subst (StandsAt next) (is ∙ sym (ap target_of ended.1)) stands
  at_target answer.Down next slot is ended stands = subst (StandsAt next) (is ∙ sym (ap target_of ended.1)) stands

  abbrev WasAt : Slot → Type 0
  WasAt target = StandsFor old images (of_slot target a b) (of_slot target b a) (in_slot target left_a left_b) (beside_slot target left_a left_b)

  pub kept_at_a : A ≡ target_of old.newest → Stepped took honest given old new from to a a' b b' left_a left_a' left_b left_b' → Stands old images a b left_a left_b → FilesKept
  kept_at_a is step stands =
      let was : WasAt A = subst WasAt (sym is) stands in
      let next = kept took honest sure old new from to a a' b b' left_a left_a' left_b left_b' images was given step in
      (next.0, at_target given next.0 A is step.ended next.1, next.2)

  pub kept_at_b : B ≡ target_of old.newest → Stepped took honest given old new from to b b' a a' left_b left_b' left_a left_a' → Stands old images a b left_a left_b → FilesKept
  kept_at_b is step stands =
      let was : WasAt B = subst WasAt (sym is) stands in
      let next = kept took honest sure old new from to b b' a a' left_b left_b' left_a left_a' images was given step in
      (next.0, at_target given next.0 B is step.ended next.1, next.2)
