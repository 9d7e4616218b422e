-- A copy of a world's files, and the world in it.
use Rattle.std.specs.Prelude.{◌≡◌, ◌⊎◌, ℕ, ◌<◌, ◌≤◌, min, List, ◌∷◌, length, take, Bool, true}
use Rattle.std.specs.Prelude.{false, None, Result, Ok, Err, Vec}
use Rattle.std.specs.declared.alloc.Global.{Global}
use Rattle.std.specs.declared.io.Error.{Error}
use Rattle.disk_model.specs.FourFiles.{mapped, value_of}
use Rattle.disk_model.specs.declared.four_files.FourFiles.{FourFiles}
use Rattle.disk_model.specs.declared.world_file.WorldFile.{WorldFile}
use Rattle.disk_model.specs.declared.world_file.WorldFile.TheVariants.{ImageA, ImageB, LogA, LogB}
use Rattle.action_log.specs.declared.format.TheConstants.{SEGMENT_BYTES_MAX}
use Rattle.action_log.specs.Extent.{HasNoGroups, IsExtent}
use Rattle.world_folder.specs.Fault.{AreJudged, AreRead, Files, Stands}
use Rattle.world_folder.specs.Heads.{head_of}
use Rattle.world_folder.specs.History.{Act, Measured, Read, AreInTurn}
use Rattle.world_folder.specs.ReadIn.{IsFileRead, IsReadIn}
use Rattle.recovery.specs.declared.recovered.Recovered.{Recovered}
use Rattle.world_folder.specs.declared.found.WorldReport.{WorldReport}
use Rattle.world_folder.specs.declared.lost.Checks.{Checks}
use Rattle.world_reports.specs.declared.copy.Seen.{Seen}
use Rattle.world_reports.specs.declared.copy.SeenWorld.{SeenWorld}

-- no gate ends the groups in these bytes of a segment, and its file, of this length, has
-- more that may count
abbrev pub IsCutShort : List ℕ → (length_of_file : ℕ) → Type 0
IsCutShort bytes length_of_file =
    (groups_end : ℕ) × (ticks : ℕ) × IsExtent bytes groups_end ticks false
    × (length bytes < min length_of_file SEGMENT_BYTES_MAX)

-- these bytes of a segment are all that count of its file: it has no open header, a gate ends its
-- groups, or it has no more
abbrev pub IsReadWhole : List ℕ → (length_of_file : ℕ) → Type 0
IsReadWhole bytes length_of_file =
    HasNoGroups bytes ⊎ (((groups_end : ℕ) × (ticks : ℕ) × IsExtent bytes groups_end ticks true)
    ⊎ (min length_of_file SEGMENT_BYTES_MAX ≤ length bytes))

-- all that the file's format reads, or its head
abbrev pub IsPart : (file : WorldFile) → (whole : Bool) → (content bytes : List ℕ) → Type 0
IsPart file true content bytes = IsFileRead file content bytes
IsPart file false content bytes = bytes ≡ take (head_of file) content

-- four files that were opened to be read have these bytes
abbrev pub reads : FourFiles (List ℕ) → List Act → List Act
reads contents acts =
    Read LogB contents.log_b ∷ Read LogA contents.log_a ∷ Read ImageB contents.image_b
    ∷ Read ImageA contents.image_a ∷ acts

-- these bytes of four files are all that their formats read, or their heads
pub record AreParts (whole : Bool) (contents : FourFiles (List ℕ)) (bytes : Files) : Type 0 where
  pub image_a : IsPart ImageA whole contents.image_a bytes.image_a.items
  pub image_b : IsPart ImageB whole contents.image_b bytes.image_b.items
  pub log_a : IsPart LogA whole contents.log_a bytes.log_a.items
  pub log_b : IsPart LogB whole contents.log_b bytes.log_b.items

-- a copy of four files with these bytes, and how long they are; no read failed
pub record IsCopyOf (contents : FourFiles (List ℕ)) (seen : Seen) : Type 0 where
  pub copied : Files
  pub are_read : AreRead seen.files copied
  pub parts : AreParts true contents copied
  pub lengths_are : seen.lengths ≡ mapped length contents
  pub none_failed : seen.failed ≡ None

-- Four files were opened by their own names, and a copy of them was seen.
pub record IsCopied (before after : List Act) (seen : Seen) : Type 0 where
  pub contents : FourFiles (List ℕ)
  pub opened : after ≡ reads contents before
  pub copy : IsCopyOf contents seen

-- the number of the bytes that were read
abbrev pub length_read : Result (Vec ℕ Global) Error → ℕ
length_read (Ok bytes) = length bytes.items
length_read (Err error) = 0

-- how long a file is that was read so, by its own name; or how much was read of it
abbrev pub IsMeasured : (file : WorldFile) → Result (Vec ℕ Global) Error → (length : ℕ)
    → (before after : List Act) → Type 0
IsMeasured file read length before after =
    (after ≡ Measured file length ∷ before) ⊎ ((length ≡ length_read read) × (after ≡ before))

-- each file was read by itself, and then measured
pub record AreReadAndMeasured (seen : Seen) (before after : List Act) : Type 0 where
  pub read : List Act
  pub files : AreInTurn IsReadIn seen.files before read
  pub lengths : AreInTurn (λ (file : WorldFile). IsMeasured file (value_of file seen.files))
      seen.lengths read after

-- a copy was seen; or, once none could be taken, each file by itself
abbrev pub IsSeen : Seen → (before after : List Act) → Type 0
IsSeen seen before after =
    IsCopied before after seen
    ⊎ ((not_copied : List Act) × AreReadAndMeasured seen not_copied after)

-- The files were seen, and recovery finds this world in them. They aren't refused for a loss.
pub record IsWorldSeen (checks : Checks) (world : SeenWorld)
    (before after : List Act) : Type 0 where
  pub seen : Seen
  pub is_seen : IsSeen seen before after
  pub are_read : AreRead seen.files world.files
  pub stands : Stands world.files world.found.world
  pub judged : AreJudged checks world.files world.found.world world.found.finding
  pub lengths_are : world.lengths ≡ seen.lengths
  pub tries_are : world.tries ≡ seen.tries
  pub failed_is : world.failed ≡ seen.failed

-- the same words after the same tick; the images from which they were built may be of other ticks
abbrev pub IsSameWorld : (one other : Recovered) → Type 0
IsSameWorld one other = (one.tick ≡ other.tick) × (one.words.items ≡ other.words.items)

-- The four files of a folder were read, and recovery finds in them the world that was written.
pub record IsVerified (written : Recovered) (reported : WorldReport)
    (before after : List Act) : Type 0 where
  pub read : FourFiles (Result (Vec ℕ Global) Error)
  pub bytes : Files
  pub found : Recovered
  pub read_in : AreInTurn IsReadIn read before after
  pub are_read : AreRead read bytes
  pub stands : Stands bytes found
  pub same : IsSameWorld written found
  pub reported_is : reported ≡ record { tick = found.tick; from = found.from }
