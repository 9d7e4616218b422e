-- The files of a folder in which a world is to be made: those that are there, and
-- those that are made.
use Rattle.std.specs.Prelude.{◌≡◌, ◌⊎◌, ◌≤◌, ℕ, List, ◌∷◌, [], length, Option, Some, None}
use Rattle.std.specs.Prelude.{IsSome, option_map}
use Rattle.std.specs.Path.{path_buf_bytes, path_join}
use Rattle.world_actions.specs.declared.refusal.Refusal.TheVariants.{NoMemory, Device, NotEmpty}
use Rattle.file_format.specs.Gate.{HasOpenGate}
use Rattle.disk_model.specs.Disk.{Only}
use Rattle.disk_model.specs.declared.disk.Disk.{Ghosts}
use Rattle.disk_model.specs.FourFiles.{EachFile, KeepsFile, mapped, value_of}
use Rattle.world_start.specs.Opening.{AreSynced}
use Rattle.disk_model.specs.declared.four_files.FourFiles.{FourFiles}
use Rattle.world_folder.specs.declared.failure.Failure.{Failure}
use Rattle.world_folder.specs.declared.failure.Failure.TheVariants.{Refused, Occupied}
use Rattle.world_folder.specs.declared.heads.TheConstants.{IMAGE_HEAD, SEGMENT_HEAD}
use Rattle.world_folder.specs.declared.entry.Entry.{Entry}
use Rattle.world_folder.specs.declared.entry.Identity.{Identity}
use Rattle.world_folder.specs.History.{Act, AreInTurn, IsTakenInPart, Made, with_lock, synced}
use Rattle.world_folder.specs.OwnFile.{AreLookedFor, AreApart, IsOpenedInPart}
use Rattle.world_folder.specs.OwnFile.{IsOwnIfThere}
use Rattle.disk_model.specs.declared.world_file.WorldFile.{WorldFile}
use Rattle.disk_model.specs.declared.world_file.WorldFile.TheVariants.{ImageA, ImageB, LogA, LogB}
use Rattle.disk_model.specs.declared.world_file.TheConstants.{IMAGE_A, IMAGE_B, LOG_A, LOG_B}

-- the failure says that a file isn't closed: its code is 22
abbrev pub IsOccupied : Failure → Type 0
IsOccupied (Occupied file) = Unit {0}
IsOccupied (Refused NotEmpty) = Unit {0}
IsOccupied other = ⊥

-- the gate is open, and the file has room for a header of so many bytes: it may hold an
-- image or a segment
abbrev pub IsOpenFile : (header : ℕ) → List ℕ → Type 0
IsOpenFile header bytes = (header ≤ length bytes) × HasOpenGate bytes

module _ {D : Type 0} (file : D → List ℕ) where
  -- the file is there and open
  abbrev pub IsOpenThere : (header : ℕ) → Option D → Type 0
  IsOpenThere header None = ⊥
  IsOpenThere header (Some disk) = IsOpenFile header (file disk)

  -- none of the files that are there is open
  pub record NoneIsOpen (present : FourFiles (Option D)) : Type 0 where
    pub image_a : ¬ IsOpenThere IMAGE_HEAD present.image_a
    pub image_b : ¬ IsOpenThere IMAGE_HEAD present.image_b
    pub log_a : ¬ IsOpenThere SEGMENT_HEAD present.log_a
    pub log_b : ¬ IsOpenThere SEGMENT_HEAD present.log_b

  -- the file of this name is the first one that is there and open
  abbrev pub IsFirstThere : FourFiles (Option D) → (name : List ℕ) → Type 0
  IsFirstThere present name =
      ((name ≡ IMAGE_A.now) × IsOpenThere IMAGE_HEAD present.image_a)
      ⊎ (((name ≡ IMAGE_B.now) × ¬ IsOpenThere IMAGE_HEAD present.image_a
      × IsOpenThere IMAGE_HEAD present.image_b)
      ⊎ (((name ≡ LOG_A.now) × ¬ IsOpenThere IMAGE_HEAD present.image_a
      × ¬ IsOpenThere IMAGE_HEAD present.image_b × IsOpenThere SEGMENT_HEAD present.log_a)
      ⊎ ((name ≡ LOG_B.now) × ¬ IsOpenThere IMAGE_HEAD present.image_a
      × ¬ IsOpenThere IMAGE_HEAD present.image_b
      × ¬ IsOpenThere SEGMENT_HEAD present.log_a × IsOpenThere SEGMENT_HEAD present.log_b)))

  -- the failure says why no world is made in a folder: it names the first file that is there and
  -- open, or no file
  abbrev pub ReportsOpen : (folder : List ℕ) → FourFiles (Option D) → Failure → Type 0
  ReportsOpen folder present (Occupied reported) =
      (name : List ℕ) × (path_buf_bytes reported.path ≡ path_join folder name)
      × IsFirstThere present name
  ReportsOpen folder present (Refused refusal) = (refusal ≡ NoMemory) ⊎ (refusal ≡ Device)
  ReportsOpen folder present other = ⊥

-- all four files are there
abbrev pub AreThere : {D : Type 0} → FourFiles (Option D) → Type 0
AreThere files = EachFile files files (λ file _. IsSome file)

-- a file that is there is only read; none appears
abbrev pub KeepsThere : {D : Type 0} → Ghosts D → Option D → Option D → Type 0
KeepsThere disk None new = new ≡ None
KeepsThere disk (Some old) None = ⊥
KeepsThere disk (Some old) (Some new) = KeepsFile disk old new

-- ---- the history of a folder

-- Those files of four that are there are different ones, and were opened to be written.
pub record AreFound {D : Type 0} (identity : D → Identity) (files : FourFiles (Option D))
    (before after : List Act) : Type 0 where
  pub looked_for : AreLookedFor identity files before after
  pub apart : AreApart (mapped (option_map identity) files)

-- The files up to one that failed were looked for in turn, and opened if they were there. The
-- others are not open.
abbrev pub AreFoundInPart : {D : Type 0} (identity : D → Identity) → FourFiles (Option D)
    → (before after : List Act) → Type 0
AreFoundInPart {D} identity files before after =
    AreInTurn (λ (file : WorldFile) (found : Option D) (acts next : List Act).
    IsOwnIfThere identity file found acts next
    ⊎ ((found ≡ None) × IsOpenedInPart file acts next)) files before after

-- A file that was there isn't made. One that wasn't is, up to a call that failed.
abbrev pub IsMadeIfAbsent : {D : Type 0} (file : WorldFile) → (there now : Option D)
    → (before after : List Act) → Type 0
IsMadeIfAbsent file (Some there) now before after = after ≡ before
IsMadeIfAbsent file None (Some made) before after =
    (entry : Entry) × (after ≡ with_lock file entry (Made file entry ∷ before))
IsMadeIfAbsent file None None before after = IsTakenInPart file (Made file) before after

-- those of four files that weren't there were made in turn, up to a call that failed
abbrev pub AreMadeIfAbsent : {D : Type 0} (there now : FourFiles (Option D))
    → (before after : List Act) → Type 0
AreMadeIfAbsent {D} there now before after =
    AreInTurn (λ (file : WorldFile) (now : Option D) (acts next : List Act).
    IsMadeIfAbsent file (value_of file there) now acts next) now before after

module _ {D : Type 0} (disk : Ghosts D) where
  -- nothing of a file that is there is unsynced
  abbrev pub IsSyncedIfThere : Option D → Type 0
  IsSyncedIfThere None = Unit {0}
  IsSyncedIfThere (Some it) = Only (disk.content it) (disk.may_leave it)

  abbrev pub EachSynced : FourFiles (Option D) → Type 0
  EachSynced files = EachFile files files (λ file _. IsSyncedIfThere file)

  -- nothing was ever written to a new file
  abbrev pub IsUnwritten : D → Type 0
  IsUnwritten new = (disk.content new ≡ []) × Only (disk.content new) (disk.may_leave new)

  -- a file that was there is only read, and one that wasn't is new at most
  abbrev pub IsKept : Option D → Option D → Type 0
  IsKept None None = Unit {0}
  IsKept None (Some new) = IsUnwritten new
  IsKept (Some old) None = ⊥
  IsKept (Some old) (Some new) = KeepsFile disk old new

  -- the files that were there were only read, and others were made
  pub record AreCompleted (there files : FourFiles (Option D))
      (before after : List Act) : Type 0 where
    pub kept : EachFile there files IsKept
    pub made : AreMadeIfAbsent there files before after

  -- The four files of a folder in which a world is made, as it found or made them, and the names
  -- are durable. They are synced.
  pub record AreTaken (identity : D → Identity) (files : FourFiles D)
      (before after : List Act) : Type 0 where
    pub there : FourFiles (Option D)
    pub looked : List Act
    pub made : List Act
    pub found : AreFound identity there before looked
    pub none_open : NoneIsOpen disk.content there
    pub completed : AreCompleted there (mapped Some files) looked made
    pub named : after ≡ synced made
    pub synced_files : AreSynced disk files
