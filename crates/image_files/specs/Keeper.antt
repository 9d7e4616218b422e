-- The relations between a keeper and its two files: the target of the round, and the
-- newest image's file.
use Rattle.std.specs.Prelude.{◌≡◌, ◌⊎◌, ℕ, ◌+◌, ◌*◌, ◌≤◌, false, IsTrue, IfSome, Some, List, []}
use Rattle.std.specs.Prelude.{length}
use Rattle.std.specs.List.{list_all}
use Rattle.disk_model.specs.Disk.{Only}
use Rattle.file_format.specs.Gate.{HasShutGate, HasNoShutGate, HasOpenGate}
use Rattle.file_format.specs.Format.{marked_in}
use Rattle.file_format.specs.declared.format.Format.TheVariants.{Second}
use Rattle.image_files.specs.declared.format.TheConstants.{HEADER_BYTES, WORD_BYTES}
use Rattle.image_files.specs.declared.phase.Phase.{Phase}
use Rattle.image_files.specs.declared.phase.Phase.TheVariants.{Idle, Closing, ClosingSync, Header}
use Rattle.image_files.specs.declared.phase.Phase.TheVariants.{Opening, OpeningSync, Down}
use Rattle.image_files.specs.Image.{Image, image_of, tick_in, words_from, is_word}
use Rattle.image_files.specs.Images.{IsTarget}
use Rattle.image_files.specs.Taken.{filled_words}
use Rattle.image_files.specs.Progress.{Progress, IsInOrder, done, round_so_far}

-- ---- the results of reading the files

-- the header, in the second format, and the words written so far
pub record HasBody (keeper : Progress) (file : List ℕ) : Type 0 where
  pub room : HEADER_BYTES + WORD_BYTES * keeper.written ≤ length file
  pub mark : marked_in file ≡ Some (Second, keeper.cells)
  pub tick : tick_in file ≡ keeper.tick
  pub words : IsTrue (list_all is_word (words_from file HEADER_BYTES keeper.written))

-- the content of the target, by phase
abbrev pub TargetFits : Phase → Progress → List ℕ → Type 0
TargetFits Idle keeper file = IsTrue keeper.target_shut → HasShutGate file
TargetFits Closing keeper file = Unit {0}
TargetFits ClosingSync keeper file = HasShutGate file
TargetFits Header keeper file = HasShutGate file
TargetFits OpeningSync keeper file = HasOpenGate file × HasBody keeper file
TargetFits Down keeper file = Unit {0}
TargetFits phase keeper file = HasShutGate file × HasBody keeper file

-- The contents of the two files are as the keeper's data says.
pub record Fits (keeper : Progress) (target newest : List ℕ) : Type 0 where
  pub in_order : IsInOrder keeper
  pub image : IfSome keeper.newest (λ image. image_of newest
      ≡ Image.Open image.1 (words_from newest HEADER_BYTES keeper.cells))
  pub newest_shut : IsTrue keeper.newest_shut → HasShutGate newest
  pub of_target : TargetFits keeper.phase keeper target
  pub chunk : IsTrue (list_all is_word (filled_words keeper.chunk []))

-- ---- the outcomes of a crash for them

-- whatever a crash leaves has a gate, and the gate isn't open
abbrev pub AllShut : (List ℕ → Type 0) → Type 0
AllShut outcomes = (left : List ℕ) → outcomes left → HasShutGate left

-- the claim on the target, by phase, given its reading before the round
abbrev pub TargetEndures : Phase → Progress → (before : Image) → (target newest : List ℕ)
    → (List ℕ → Type 0) → Type 0
TargetEndures Idle keeper before target newest outcomes =
    Only target outcomes × (image_of target ≡ before)
    × (keeper.target_shut ≡ false → HasNoShutGate target)
TargetEndures Closing keeper before target newest outcomes =
    Only target outcomes × (image_of target ≡ before) × HasNoShutGate target
TargetEndures ClosingSync keeper before target newest outcomes =
    (left : List ℕ) → outcomes left → (image_of left ≡ before) ⊎ (image_of left ≡ Image.Closed)
TargetEndures Header keeper before target newest outcomes = Only target outcomes
TargetEndures Opening keeper before target newest outcomes = Only target outcomes
TargetEndures OpeningSync keeper before target newest outcomes =
    (left : List ℕ) → outcomes left → (image_of left ≡ Image.Closed)
    ⊎ (image_of left ≡ Image.Open keeper.tick (done keeper target newest))
TargetEndures Down keeper before target newest outcomes =
    (left : List ℕ) → outcomes left
    → IsTarget keeper.cells before (Some (round_so_far keeper target newest)) (image_of left)
TargetEndures phase keeper before target newest outcomes = AllShut outcomes

-- the claims on both files; the newest image's file stays as it is
pub record Endures (keeper : Progress) (before : Image) (target newest : List ℕ)
    (target_outcomes newest_outcomes : List ℕ → Type 0) : Type 0 where
  pub newest_stays : Only newest newest_outcomes
  pub newest_not_shut : keeper.newest_shut ≡ false → HasNoShutGate newest
  pub of_target : TargetEndures keeper.phase keeper before target newest target_outcomes
