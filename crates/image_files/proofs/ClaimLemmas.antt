-- The bytes that a crash leaves, and the beginning of a round.
use Rattle.std.proofs.Common.{rules}
use Rattle.std.proofs.Common.{◌≡◌, ℕ, ◌≤◌, List, [], Bool, true, Option, Some, None, length, refl, sym, ◌∙◌, ap, subst, arith}
use Rattle.disk_model.specs.Disk.{Only}
use Rattle.file_format.specs.Gate.{HasShutGate}
use Rattle.file_format.specs.declared.slot.Slot.{Slot}
use Rattle.file_format.specs.declared.slot.Slot.TheVariants.{A, B}
use Rattle.file_format.specs.Slot.{other_slot, of_slot, in_slot, beside_slot}
use Rattle.image_files.specs.declared.format.TheConstants.{CELLS_MAX}
use Rattle.image_files.specs.declared.phase.Phase.{Phase}
use Rattle.image_files.specs.declared.phase.Phase.TheVariants.{Idle}
use Rattle.image_files.specs.Image.{Image, image_of, words_from}
use Rattle.image_files.specs.Images.{Round, Images, FirstImages, ImageFiles, NoneYet, Newest, ImageFilesAre, IsTarget}
use Rattle.image_files.specs.Progress.{Progress, PhaseFits, IsInOrder, made_keeper, target_of, round_so_far, round_in_phase, round_of}
use Rattle.image_files.specs.Keeper.{Fits, TargetFits, TargetEndures}
use Rattle.image_files.specs.Files.{FitsFiles, Stands, StandsFor, HoldsNewest, IsReported, ReportsShut}
use Rattle.image_files.proofs.SpellingLemmas.{open_file}
use Rattle.image_files.proofs.GateLemmas.{shut_reads_closed}
use Rattle.image_files.proofs.BodyLemmas.{length_done}

-- ---- the target

module _ (keeper : Progress) (before : Image) (target newest left : List ℕ) (outcomes : List ℕ → Type 0) (outcome : outcomes left) where
  abbrev Reads : Phase → Type 0
  Reads phase = IsTarget keeper.cells before (round_in_phase phase (round_so_far keeper target newest)) (image_of left)

  closed : HasShutGate left → image_of left ≡ Image.Closed
  closed shut = shut_reads_closed left shut

  reads_so : (phase : Phase) → PhaseFits phase keeper → TargetFits phase keeper target → TargetEndures phase keeper before target newest outcomes → Reads phase
  reads_so b order fits stands = search (rules, closed, length_done)

  pub target_left : Fits keeper target newest → TargetEndures keeper.phase keeper before target newest outcomes → IsTarget keeper.cells before (round_of keeper target newest) (image_of left)
  target_left fits stands = reads_so keeper.phase fits.in_order.by_phase fits.of_target stands

-- ---- both files

-- in a round of a keeper with an image the newest file has it, and the other one is the target
module _ (keeper : Progress) (images : Images) (target newest : List ℕ) (target_outcomes newest_outcomes : List ℕ → Type 0)
    (stands : StandsFor keeper (Newest images) target newest target_outcomes newest_outcomes) where
  newest_has : (left : List ℕ) → newest_outcomes left → image_of left ≡ Image.Open images.tick images.words
  newest_has left outcome = search rules

  target_has : (left : List ℕ) → target_outcomes left → IsTarget keeper.cells images.before images.round (image_of left)
  target_has left outcome = search (rules, target_left)

module _ (keeper : Progress) (image_a image_b : List ℕ) (outcomes_a outcomes_b : List ℕ → Type 0) where
  -- by the file of the newest image
  abbrev StandsAt : ImageFiles → Slot → Type 0
  StandsAt images target = StandsFor keeper images (of_slot target image_a image_b) (of_slot target image_b image_a) (in_slot target outcomes_a outcomes_b) (beside_slot target outcomes_a outcomes_b)

  images_are : (images : Images) (slot : Slot) → StandsAt (Newest images) (other_slot slot)
      → ((left : List ℕ) → in_slot slot outcomes_a outcomes_b left → image_of left ≡ Image.Open images.tick images.words)
      × ((left : List ℕ) → beside_slot slot outcomes_a outcomes_b left → IsTarget keeper.cells images.before images.round (image_of left))
  images_are images A stands = (newest_has keeper images image_b image_a outcomes_b outcomes_a stands, target_has keeper images image_b image_a outcomes_b outcomes_a stands)
  images_are images B stands = (newest_has keeper images image_a image_b outcomes_a outcomes_b stands, target_has keeper images image_a image_b outcomes_a outcomes_b stands)

  pub files_left : (images : ImageFiles) → Stands keeper images image_a image_b outcomes_a outcomes_b → ImageFilesAre keeper.cells images outcomes_a outcomes_b
  files_left (NoneYet images) stands =
      let here : StandsAt (NoneYet images) A = subst (λ (n : Option (Slot × ℕ)). StandsAt (NoneYet images) (target_of n)) stands.held.0 stands in
      record {
        target = λ left outcome. subst (λ r. IsTarget keeper.cells Image.Closed r (image_of left)) (sym here.held.2)
            (target_left keeper Image.Closed image_a image_b left outcomes_a outcome here.fits here.endures.of_target);
        beside = λ left outcome. ap image_of (here.endures.newest_stays left outcome) ∙ here.held.1;
      }
  files_left (Newest images) stands =
      let here : StandsAt (Newest images) (other_slot images.slot) = subst (λ (n : Option (Slot × ℕ)). StandsAt (Newest images) (target_of n)) stands.held.0 stands in
      let both = images_are images images.slot here in
      record { newest = both.0; target = both.1 }

-- ---- a keeper just made

module _ (cells : ℕ) (some : 1 ≤ cells) (most : cells ≤ CELLS_MAX) where
  abbrev fresh : Option (Slot × ℕ) → (target_shut newest_shut : Bool) → Progress
  fresh newest target_shut newest_shut = record { cells = cells; newest = newest; target_shut = target_shut; newest_shut = newest_shut; phase = Idle; tick = 0; written = 0; chunk = [] }

  fresh_order : (newest : Option (Slot × ℕ)) (target_shut newest_shut : Bool) → IsInOrder (fresh newest target_shut newest_shut)
  fresh_order newest target_shut newest_shut = record { some = some; most = most; ticks = omega arith; within = omega arith; by_phase = tt }

  -- by the parts of the files
  module _ (target_shut newest_shut : Bool) (target newest : List ℕ) (target_reports : target_shut ≡ true → HasShutGate target) (newest_reports : newest_shut ≡ true → HasShutGate newest) where
    fits_without : Fits (fresh None target_shut newest_shut) target newest
    fits_without = record { in_order = fresh_order None target_shut newest_shut; image = tt; newest_shut = newest_reports; of_target = target_reports; chunk = refl }

    fits_with : (slot : Slot) (tick : ℕ) (words : List ℕ) → length words ≡ cells → image_of newest ≡ Image.Open tick words → Fits (fresh (Some (slot, tick)) target_shut newest_shut) target newest
    fits_with slot tick words count is =
        let same : words ≡ words_from newest 17 cells = sym (open_file newest tick words is).words_are ∙ ap (words_from newest 17) count in
        record { in_order = fresh_order (Some (slot, tick)) target_shut newest_shut; image = is ∙ ap (Image.Open tick) same; newest_shut = newest_reports; of_target = target_reports; chunk = refl }

  pub made_fits : (newest : Option (Slot × ℕ)) (shut_a shut_b : Bool) (image_a image_b : List ℕ)
      → HoldsNewest cells newest image_a image_b → (shut_a ≡ true → HasShutGate image_a) → (shut_b ≡ true → HasShutGate image_b)
      → FitsFiles (made_keeper cells newest shut_a shut_b) image_a image_b
  made_fits None shut_a shut_b image_a image_b holds a_reports b_reports = fits_without shut_a shut_b image_a image_b a_reports b_reports
  made_fits (Some (A, tick)) shut_a shut_b image_a image_b holds a_reports b_reports = fits_with shut_b shut_a image_b image_a b_reports a_reports A tick holds.0 holds.1 holds.2
  made_fits (Some (B, tick)) shut_a shut_b image_a image_b holds a_reports b_reports = fits_with shut_a shut_b image_a image_b a_reports b_reports B tick holds.0 holds.1 holds.2

  module _ (target_shut newest_shut : Bool) (target newest : List ℕ) (target_outcomes newest_outcomes : List ℕ → Type 0)
      (only_target : Only target target_outcomes) (only_newest : Only newest newest_outcomes) (target_reports : ReportsShut target_shut target) (newest_reports : ReportsShut newest_shut newest) where
    made_without : (images : FirstImages) → images.round ≡ None → image_of target ≡ Image.Closed → image_of newest ≡ Image.Closed
        → StandsFor (fresh None target_shut newest_shut) (NoneYet images) target newest target_outcomes newest_outcomes
    made_without images no_round target_closed newest_closed = record {
      fits = fits_without target_shut newest_shut target newest target_reports.yes newest_reports.yes;
      endures = record { newest_stays = only_newest; newest_not_shut = newest_reports.no; of_target = (only_target, target_closed, target_reports.no) };
      held = (refl, newest_closed, no_round);
    }

    made_with : (images : Images) → images.round ≡ None → length images.words ≡ cells → image_of newest ≡ Image.Open images.tick images.words → image_of target ≡ images.before
        → StandsFor (fresh (Some (images.slot, images.tick)) target_shut newest_shut) (Newest images) target newest target_outcomes newest_outcomes
    made_with images no_round count is was =
        let words : images.words ≡ words_from newest 17 cells = sym (open_file newest images.tick images.words is).words_are ∙ ap (words_from newest 17) count in
        record {
          fits = fits_with target_shut newest_shut target newest target_reports.yes newest_reports.yes images.slot images.tick images.words count is;
          endures = record { newest_stays = only_newest; newest_not_shut = newest_reports.no; of_target = (only_target, was, target_reports.no) };
          held = (refl, words, no_round);
        }

  -- by their names
  module _ (shut_a shut_b : Bool) (image_a image_b : List ℕ) (outcomes_a outcomes_b : List ℕ → Type 0)
      (only_a : Only image_a outcomes_a) (only_b : Only image_b outcomes_b) (a_reports : ReportsShut shut_a image_a) (b_reports : ReportsShut shut_b image_b) where
    abbrev MadeStands : ImageFiles → Option (Slot × ℕ) → Type 0
    MadeStands images newest = Stands (made_keeper cells newest shut_a shut_b) images image_a image_b outcomes_a outcomes_b

    made_at : (slot : Slot) (tick : ℕ) (words : List ℕ) (before : Image) (round : Option Round) → round ≡ None
        → length words ≡ cells → image_of (of_slot slot image_a image_b) ≡ Image.Open tick words → image_of (of_slot slot image_b image_a) ≡ before
        → MadeStands (Newest (record { slot = slot; tick = tick; words = words; before = before; round = round })) (Some (slot, tick))
    made_at A tick words before round =
        made_with shut_b shut_a image_b image_a outcomes_b outcomes_a only_b only_a b_reports a_reports (record { slot = A; tick = tick; words = words; before = before; round = round })
    made_at B tick words before round =
        made_with shut_a shut_b image_a image_b outcomes_a outcomes_b only_a only_b a_reports b_reports (record { slot = B; tick = tick; words = words; before = before; round = round })

    pub made_stands : (newest : Option (Slot × ℕ)) (images : ImageFiles) → IsReported cells newest images image_a image_b → MadeStands images newest
    made_stands newest b reported = search (rules, made_at, made_without)

-- ---- between two rounds

in_slots : (slot : Slot) (a b : List ℕ) (outcomes_a outcomes_b : List ℕ → Type 0)
    → Only (of_slot slot a b) (in_slot slot outcomes_a outcomes_b) → Only (of_slot slot b a) (beside_slot slot outcomes_a outcomes_b)
    → Only a outcomes_a × Only b outcomes_b
in_slots A a b outcomes_a outcomes_b one other = (one, other)
in_slots B a b outcomes_a outcomes_b one other = (other, one)

-- nothing of the files is unsynced
pub idle_rests : (keeper : Progress) (images : ImageFiles) (a b : List ℕ) (outcomes_a outcomes_b : List ℕ → Type 0) → Stands keeper images a b outcomes_a outcomes_b → keeper.phase ≡ Idle
    → Only a outcomes_a × Only b outcomes_b
idle_rests keeper images a b outcomes_a outcomes_b stands idle = search (rules, in_slots)
