-- The results of making a world in a folder.
use Rattle.std.specs.Prelude.{◌≡◌, ◌≢◌, ◌⊎◌, ◌≤◌, ℕ, Bool, List, [], length, Ok, Err, replicate}
use Rattle.std.specs.Path.{path_buf_bytes, path_join}
use Rattle.world_actions.specs.declared.refusal.Refusal.TheVariants.{NoMemory, Device}
use Rattle.world_actions.specs.declared.refusal.Refusal.TheVariants.{NoImage}
use Rattle.file_format.specs.declared.slot.Slot.TheVariants.{A}
use Rattle.disk_model.specs.declared.disk.Disk.{Ghosts}
use Rattle.disk_model.specs.Disk.{Call, Only}
use Rattle.disk_model.specs.FourFiles.{EachFile, KeepsFile}
use Rattle.disk_model.specs.declared.four_files.FourFiles.{FourFiles}
use Rattle.image_files.specs.Image.{Closed, Open, image_of}
use Rattle.action_log.specs.Segment.{ClosedSegment, IsSegment}
use Rattle.action_log.specs.declared.format.TheConstants.{SEGMENT_BYTES_MAX}
use Rattle.file_readers.specs.declared.image.TheConstants.{IMAGE_BYTES_MAX}
use Rattle.file_readers.specs.Asking.{OnlyAsked}
use Rattle.recovery.specs.Recovery.{Recovery, Recovers}
use Rattle.recovery.specs.Sound.{IsFresh}
use Rattle.engine.specs.Follows.{AreSound}
use Rattle.world_start.specs.Opening.{AreSynced, RecoversFiles}
use Rattle.world_start.specs.Fresh.{FilesAreClosed, AreFreshOrSound, AreMade}
use Rattle.world_actions.specs.World.{IsWorld}
use Rattle.world_actions.specs.declared.world.TheConstants.{CELLS}
use Rattle.world_folder.specs.declared.new_world.FirstWords.{FirstWords}
use Rattle.world_folder.specs.declared.new_world.FirstWords.TheVariants.{Zeros, Listed}
use Rattle.world_folder.specs.declared.failure.Failure.{Failure}
use Rattle.world_folder.specs.declared.failure.Failure.TheVariants.{Refused, Occupied}
use Rattle.disk_model.specs.declared.world_file.TheConstants.{IMAGE_A, IMAGE_B, LOG_A, LOG_B}

abbrev pub words_of : FirstWords → List ℕ
words_of (Zeros cells) = replicate cells 0
words_of (Listed words) = words.now

abbrev pub count_of : FirstWords → ℕ
count_of (Zeros cells) = cells
count_of (Listed words) = length words.now

-- a world may begin with these words
abbrev pub AreFirst : FirstWords → Type 0
AreFirst (Zeros cells) = (1 ≤ cells) × (cells ≤ CELLS)
AreFirst (Listed words) = IsWorld words.now

-- of four files with these bytes, the one of this name is the first that isn't closed
abbrev pub IsFirstOpen : (image_a image_b log_a log_b name : List ℕ) → Type 0
IsFirstOpen image_a image_b log_a log_b name =
    ((name ≡ IMAGE_A.now) × (image_of image_a ≢ Closed))
    ⊎ (((name ≡ IMAGE_B.now) × (image_of image_a ≡ Closed) × (image_of image_b ≢ Closed))
    ⊎ (((name ≡ LOG_A.now) × (image_of image_a ≡ Closed) × (image_of image_b ≡ Closed)
    × ¬ IsSegment log_a ClosedSegment)
    ⊎ ((name ≡ LOG_B.now) × (image_of image_a ≡ Closed) × (image_of image_b ≡ Closed)
    × IsSegment log_a ClosedSegment × ¬ IsSegment log_b ClosedSegment)))

module _ {D : Type 0} (file : D → List ℕ) where
  -- the failure says why no world was made of the four files of a folder: it names the first one
  -- that isn't closed, or no file
  abbrev pub ReportsUnmade : (folder : List ℕ) → FourFiles D → Failure → Type 0
  ReportsUnmade folder files (Occupied reported) =
      (name : List ℕ) × (path_buf_bytes reported.path ≡ path_join folder name)
      × IsFirstOpen (file files.image_a) (file files.image_b)
      (file files.log_a) (file files.log_b) name
  ReportsUnmade folder files (Refused refusal) = (refusal ≡ NoMemory) ⊎ (refusal ≡ Device)
  ReportsUnmade folder files other = ⊥

-- the files beside image.a are asked for no byte after the greatest length of their format, and
-- for nothing else
pub record OthersOnlyAsked {D : Type 0} (called : D → Call → Bool → D → Type 0)
    (files left : FourFiles D) : Type 0 where
  pub image_b : OnlyAsked called IMAGE_BYTES_MAX files.image_b left.image_b
  pub log_a : OnlyAsked called SEGMENT_BYTES_MAX files.log_a left.log_a
  pub log_b : OnlyAsked called SEGMENT_BYTES_MAX files.log_b left.log_b

-- the files beside image.a are only asked so if listed words are written
abbrev pub AsksOthers : {D : Type 0} → (called : D → Call → Bool → D → Type 0)
    → FirstWords → (files left : FourFiles D) → Type 0
AsksOthers called (Zeros cells) files left = Unit {0}
AsksOthers called (Listed words) files left = OthersOnlyAsked called files left

-- the files beside image.a stay as they are if listed words are written
abbrev pub OthersStay : {D : Type 0} → FirstWords → (files left : FourFiles D) → Type 0
OthersStay (Zeros cells) files left = Unit {0}
OthersStay (Listed words) files left = left ≡ record files { image_a = left.image_a }

-- what recovery finds in a world that was made of these words
abbrev pub recovery_of_words : List ℕ → Recovery
recovery_of_words words = record { tick = 0; from = 0; slot = A; words = words }

module _ {D : Type 0} (disk : Ghosts D) where
  -- The files held no world, and recovery finds these words in them at tick 0. image.a has them,
  -- and is durable. The other files were only read. If the files were synced, they are sound from
  -- these words, and synced again.
  pub record HoldsWords (files : FourFiles D) (words : List ℕ) (made : FourFiles D) : Type 0 where
    pub closed : FilesAreClosed disk.content files
    pub image : image_of (disk.content made.image_a) ≡ Open 0 words
    pub durable : Only (disk.content made.image_a) (disk.may_leave made.image_a)
    pub image_b : KeepsFile disk files.image_b made.image_b
    pub log_a : KeepsFile disk files.log_a made.log_a
    pub log_b : KeepsFile disk files.log_b made.log_b
    pub recovers : RecoversFiles disk.content made (recovery_of_words words)
    pub sound : AreSynced disk files → AreSound disk made words [] 0
    pub synced : AreSynced disk files → AreSynced disk made

  -- The files held no world, and now they hold the one of these words at tick 0.
  abbrev pub IsMadeOf : FirstWords → (files made : FourFiles D) → Type 0
  IsMadeOf (Zeros cells) files made = AreMade disk files cells made
  IsMadeOf (Listed words) files made = HoldsWords files words.now made

  -- Whatever a crash leaves of the files is no world yet, or the one of these words at tick 0. So
  -- they are those of a fresh world of these words.
  abbrev pub HoldNoOther : FirstWords → FourFiles D → Type 0
  HoldNoOther (Zeros cells) left = AreFreshOrSound disk left (replicate cells 0)
  HoldNoOther (Listed words) left =
      ((a b la lb : List ℕ) → disk.may_leave left.image_a a → disk.may_leave left.image_b b
      → disk.may_leave left.log_a la → disk.may_leave left.log_b lb
      → Recovers a b la lb (Err NoImage) ⊎ Recovers a b la lb (Ok (recovery_of_words words.now)))
      × IsFresh (disk.may_leave left.image_a) (disk.may_leave left.image_b)
      (disk.may_leave left.log_a) (disk.may_leave left.log_b) words.now

  -- No world was made, and the program ends so. The files were only read, except if a device
  -- failed. If they held no world, a crash leaves no other one in them.
  pub record IsUnmade (folder : List ℕ) (files : FourFiles D) (words : FirstWords)
      (failure : Failure) (left : FourFiles D) : Type 0 where
    pub reported : ReportsUnmade disk.content folder files failure
    pub kept : failure ≢ Refused Device → EachFile files left (KeepsFile disk)
    pub safe : AreSynced disk files → FilesAreClosed disk.content files → HoldNoOther words left
