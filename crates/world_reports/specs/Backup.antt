-- A copy of a world in another folder.
use Rattle.std.specs.Prelude.{◌≡◌, ℕ, nat_lt, if◌then◌else◌, List, [], ◌∷◌}
use Rattle.std.specs.Prelude.{Option, Some, None}
use Rattle.disk_model.specs.declared.disk.Disk.{Ghosts}
use Rattle.disk_model.specs.declared.four_files.FourFiles.{FourFiles}
use Rattle.file_format.specs.declared.gate.TheConstants.{CLOSED_GATE}
use Rattle.file_format.specs.declared.slot.Slot.{Slot}
use Rattle.file_format.specs.declared.slot.Slot.TheVariants.{A, B}
use Rattle.world_folder.specs.Ending.{ending_of}
use Rattle.world_folder.specs.declared.ending.Ending.{Ending}
use Rattle.world_folder.specs.declared.found.WorldReport.{WorldReport}
use Rattle.world_folder.specs.declared.guard.Guard.{Guard}
use Rattle.world_folder.specs.Fault.{Files}
use Rattle.world_folder.specs.declared.lost.Checks.{Checks}
use Rattle.world_reports.specs.Copy.{IsVerified, IsWorldSeen}
use Rattle.world_reports.specs.NewFiles.{AreWritten}
use Rattle.world_reports.specs.Reports.{NamesFailed, with_finding}
use Rattle.world_reports.specs.declared.copy.SeenWorld.{SeenWorld}
use Rattle.world_folder.specs.History.{Act, FoundEmpty, FoundOutside, GuardPut, Printed, Warned}
use Rattle.world_reports.specs.Texts.{backed_up_text, begun_text}

-- it is named on standard error how often a copy was begun, if it was begun anew
abbrev pub with_tries : (tries : ℕ) → List Act → List Act
with_tries tries acts = if nat_lt 1 tries then Warned (begun_text tries) ∷ acts else acts

-- a guard was put into the folder, if there is one
abbrev pub with_its_guard : Option Guard → List Act → List Act
with_its_guard None acts = acts
with_its_guard (Some guard) acts = GuardPut guard ∷ acts

-- a closed gate in place of an older image; an empty file stays one
abbrev pub shut_older : List ℕ → List ℕ
shut_older [] = []
shut_older (gate ∷ rest) = CLOSED_GATE ∷ []

-- the files with the older image closed
abbrev pub IsWithoutOlder : (newest : Slot) → (files copied : Files) → Type 0
IsWithoutOlder A files copied =
    (copied.image_a ≡ files.image_a) × (copied.image_b.items ≡ shut_older files.image_b.items)
    × (copied.log_a ≡ files.log_a) × (copied.log_b ≡ files.log_b)
IsWithoutOlder B files copied =
    (copied.image_a.items ≡ shut_older files.image_a.items) × (copied.image_b ≡ files.image_b)
    × (copied.log_a ≡ files.log_a) × (copied.log_b ≡ files.log_b)

module _ {D : Type 0} (disk : Ghosts D) where
  -- A copy of a world was made, and durable. Its files were read again, and hold the world that was
  -- read. Only then it was printed; a read that failed at first was named, and what is found of a
  -- loss. At last it got this guard. The command ends by what was found.
  pub record IsCopyMade (world : SeenWorld) (guard : Option Guard) (made : FourFiles D)
      (ending : Ending) (before after : List Act) : Type 0 where
    pub copied : Files
    pub reported : WorldReport
    pub written : List Act
    pub verified : List Act
    pub named : List Act
    pub without_older : IsWithoutOlder world.found.world.slot world.files copied
    pub are_written : AreWritten disk world.found.world.slot copied made before written
    pub is_verified : IsVerified world.found.world reported written verified
    pub failed : NamesFailed world.failed verified named
    pub printed : List Act
    pub printed_is : printed ≡ Printed (backed_up_text reported.tick reported.from)
        ∷ with_tries world.tries (with_finding world.found.finding named)
    pub guard_is : after ≡ with_its_guard guard printed
    pub ends : ending ≡ ending_of world.found.finding

  -- a copy of a world was made in an empty folder outside the world's own, with the guard by which
  -- the world was checked
  pub record IsBackedUp (checks : Checks) (path : List ℕ) (made : FourFiles D) (ending : Ending)
      (source_before source_after before after : List Act) : Type 0 where
    pub world : SeenWorld
    pub room : List Act
    pub is_seen : IsWorldSeen checks world source_before source_after
    pub is_room : room ≡ FoundEmpty ∷ FoundOutside path ∷ before
    pub copy : IsCopyMade world checks.guard made ending room after
