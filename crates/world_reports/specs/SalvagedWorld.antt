-- A world that is made of what can be read of damaged files.
use Rattle.std.specs.Prelude.{◌≡◌, ℕ, List, [], ◌∷◌, ◌++◌, codes, Bool, is_err, Result, Ok, Err}
use Rattle.std.specs.Prelude.{Vec, Option, None, Some, if◌then◌else◌}
use Rattle.std.specs.declared.alloc.Global.{Global}
use Rattle.std.specs.declared.io.Error.{Error}
use Rattle.disk_model.specs.declared.disk.Disk.{Ghosts}
use Rattle.disk_model.specs.declared.four_files.FourFiles.{FourFiles}
use Rattle.disk_model.specs.FourFiles.{EachFile, mapped}
use Rattle.file_format.specs.declared.slot.Slot.TheVariants.{A}
use Rattle.recovery.specs.Recovered.{recovery_of_answer}
use Rattle.recovery.specs.Recovery.{Recovers}
use Rattle.salvage.specs.Parts.{kept_image, kept_log}
use Rattle.salvage.specs.Salvage.{IsSalvaged}
use Rattle.salvage.specs.declared.salvaged.Salvaged.{Salvaged}
use Rattle.world_reports.specs.NewFiles.{AreWritten}
use Rattle.world_folder.specs.Fault.{Files}
use Rattle.world_folder.specs.History.{Act, FoundEmpty, FoundOutside, GuardRead, Printed}
use Rattle.world_folder.specs.History.{AreInTurn}
use Rattle.world_folder.specs.Lost.{older_finding}
use Rattle.world_folder.specs.declared.ending.Ending.{Ending}
use Rattle.world_folder.specs.declared.ending.Ending.TheVariants.{MayBeOlder}
use Rattle.world_folder.specs.declared.guard.Guard.{Guard}
use Rattle.world_folder.specs.declared.lost.Finding.{Finding}
use Rattle.world_reports.specs.DroppedFiles.{dropped_of, dropped_text, ending_of}
use Rattle.world_reports.specs.Copy.{IsVerified}
use Rattle.world_reports.specs.Reports.{NamesFailed, with_finding}
use Rattle.world_reports.specs.TwoTries.{AreTried, IsLost}
use Rattle.world_reports.specs.declared.two_tries.TwoTries.{TwoTries}
use Rattle.world_reports.specs.Texts.{image_part_text, log_part_text, salvaged_text}
use Rattle.world_folder.specs.declared.found.WorldReport.{WorldReport}
use Rattle.disk_model.specs.declared.world_file.TheConstants.{IMAGE_A, IMAGE_B, LOG_A, LOG_B}
use Rattle.disk_model.specs.declared.world_file.WorldFile.{WorldFile}

-- which files can't be read
abbrev pub lost_of : FourFiles TwoTries → FourFiles Bool
lost_of read = mapped (λ tries. is_err tries.value) read

-- the error of a first try, if the second one succeeded
abbrev pub failed_once : TwoTries → Option Error
failed_once tries = if is_err tries.value then None else tries.failed

abbrev pub failed_of : FourFiles TwoTries → FourFiles (Option Error)
failed_of read = mapped failed_once read

-- each such file was named on standard error, image.a first
abbrev pub AreFailedNamed : FourFiles (Option Error) → (before after : List Act) → Type 0
AreFailedNamed failed before after =
    AreInTurn (λ (file : WorldFile) (error : Option Error). NamesFailed error) failed before after

-- the bytes that are taken of a file: those that were read, and none of a lost one
abbrev pub AreBytesOf : Result (Vec ℕ Global) Error → Vec ℕ Global → Type 0
AreBytesOf (Ok read) bytes = bytes ≡ read
AreBytesOf (Err error) bytes = IsLost error × (bytes.items ≡ [])

-- a line was printed for a lost file, and none for another
abbrev pub NamesLost : Result (Vec ℕ Global) Error → (before after : List Act) → Type 0
NamesLost (Ok read) before after = after ≡ before
NamesLost (Err error) before after = (text : List ℕ) × (after ≡ Printed text ∷ before)

-- the bytes of four files were taken, image.a first, and a line was printed for each lost one
pub record AreTakenOf (read : FourFiles TwoTries) (files : Files)
    (before after : List Act) : Type 0 where
  pub bytes : EachFile read files (λ tries bytes. AreBytesOf tries.value bytes)
  pub named : AreInTurn (λ (file : WorldFile) (tries : TwoTries). NamesLost tries.value)
      read before after

-- what is taken of each file was printed, by its own name
abbrev pub parts_printed : Salvaged → List Act → List Act
parts_printed salvaged acts =
    Printed (LOG_B.now ++ codes ": " ++ log_part_text salvaged.log_b salvaged.found.tick)
    ∷ Printed (LOG_A.now ++ codes ": " ++ log_part_text salvaged.log_a salvaged.found.tick)
    ∷ Printed (IMAGE_B.now ++ codes ": " ++ image_part_text salvaged.image_b)
    ∷ Printed (IMAGE_A.now ++ codes ": " ++ image_part_text salvaged.image_a) ∷ acts

-- the world is what recovery finds in the parts that are taken of four files
pub record IsSalvagedOf (files : Files) (salvaged : Salvaged) : Type 0 where
  pub parts : IsSalvaged files.image_a.items files.image_b.items files.log_a.items files.log_b.items
      salvaged.image_a salvaged.image_b salvaged.log_a salvaged.log_b
  pub recovers : Recovers (kept_image salvaged.image_a files.image_a.items)
      (kept_image salvaged.image_b files.image_b.items)
      (kept_log salvaged.log_a files.log_a.items) (kept_log salvaged.log_b files.log_b.items)
      (Ok (recovery_of_answer salvaged.found))

-- how a command ends that dropped this of a world that is older than its guard, or isn't
abbrev pub ending_after : Option Finding → FourFiles Bool → Ending
ending_after None dropped = ending_of dropped
ending_after (Some older) dropped = MayBeOlder

-- A world was made of what could be read of four files, durable, its image last. Its files were
-- read again, and recovery finds in them the world that was salvaged. Only then the files were
-- named that a second try could read, and a world that is older than its guard. Then it was
-- printed, and of which files something was dropped. The command ends by both.
pub record IsMadeOf {D : Type 0} (disk : Ghosts D) (guard : Option Guard)
    (read : FourFiles TwoTries) (made : FourFiles D) (ending : Ending)
    (before after : List Act) : Type 0 where
  pub files : Files
  pub salvaged : Salvaged
  pub bytes : Files
  pub reported : WorldReport
  pub taken : List Act
  pub written : List Act
  pub verified : List Act
  pub dropped : FourFiles Bool
  pub named : List Act
  pub are_taken : AreTakenOf read files before taken
  pub is_salvaged : IsSalvagedOf files salvaged
  pub are_written : AreWritten disk A bytes made (parts_printed salvaged taken) written
  pub is_verified : IsVerified salvaged.found reported written verified
  pub failed : AreFailedNamed (failed_of read) verified named
  pub dropped_is : dropped ≡ dropped_of (lost_of read) files salvaged
  pub printed : after ≡ Printed (dropped_text dropped)
      ∷ Printed (salvaged_text reported.tick reported.from)
      ∷ with_finding (older_finding guard salvaged.found.tick) named
  pub ends : ending ≡ ending_after (older_finding guard salvaged.found.tick) dropped

-- The guard of a world was read, and then its files, each by its own name. A world was made of them
-- in an empty folder outside the world's own.
pub record IsSalvagedInto {D : Type 0} (disk : Ghosts D) (path : List ℕ)
    (made : FourFiles D) (ending : Ending)
    (source_before source_after before after : List Act) : Type 0 where
  pub guard : Option Guard
  pub acts : List Act
  pub guard_is : acts ≡ GuardRead guard ∷ source_before
  pub read : FourFiles TwoTries
  pub room : List Act
  pub read_in : AreTried read acts source_after
  pub is_room : room ≡ FoundEmpty ∷ FoundOutside path ∷ before
  pub is_made : IsMadeOf disk guard read made ending room after
