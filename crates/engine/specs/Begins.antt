-- A world at the beginning of a start.
use Rattle.std.specs.Prelude.{◌≡◌, ℕ, Bool, List, [], length, Option}
use Rattle.disk_model.specs.FourFiles.{EachFile}
use Rattle.disk_model.specs.declared.four_files.FourFiles.{FourFiles}
use Rattle.file_format.specs.declared.slot.Slot.{Slot}
use Rattle.image_files.specs.Files.{ReportsShut}
use Rattle.image_files.specs.Progress.{made_keeper}
use Rattle.action_log.specs.Progress.{begun}
use Rattle.restart.specs.Start.{has_round, started_keeper, IsBuilt}
use Rattle.engine.specs.World.{World}

-- the flags say correctly which files are shut
abbrev pub AreGates : {D : Type 0} → (file : D → List ℕ) → FourFiles D → FourFiles Bool → Type 0
AreGates file files shut = EachFile shut files (λ is_shut disk. ReportsShut is_shut (file disk))

-- a start at this tick, with these words, from this newest image, on files that are shut by
-- these flags
pub record Begins {D : Type 0} (newest : Option (Slot × ℕ)) (tick : ℕ) (words : List ℕ)
    (shut : FourFiles Bool) (files : FourFiles D) (world : World D) : Type 0 where
  pub store : IsBuilt words (has_round newest tick) world.content
  pub running : world.running ≡ []
  pub ended : world.ended ≡ tick
  pub since : world.since ≡ 0
  pub queue : world.queue ≡ []
  pub images : world.images ≡ started_keeper (has_round newest tick) tick
      (made_keeper (length words) newest shut.image_a shut.image_b)
  pub log : world.log ≡ begun tick shut.log_a shut.log_b
  pub files_are : world.files ≡ files
