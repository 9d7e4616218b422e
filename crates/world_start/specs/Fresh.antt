-- The result of making the files of a new world.
use Rattle.std.specs.Prelude.{◌≡◌, ◌≢◌, ◌⊎◌, ℕ, List, [], replicate}
use Rattle.world_actions.specs.declared.refusal.Refusal.{Refusal}
use Rattle.world_actions.specs.declared.refusal.Refusal.TheVariants.{Device, NotEmpty}
use Rattle.disk_model.specs.FourFiles.{EachFile, KeepsFile}
use Rattle.disk_model.specs.declared.four_files.FourFiles.{FourFiles}
use Rattle.disk_model.specs.declared.disk.Disk.{Ghosts}
use Rattle.image_files.specs.Image.{Closed, image_of}
use Rattle.action_log.specs.Segment.{ClosedSegment, OpenSegment, IsSegment}
use Rattle.recovery.specs.Sound.{IsFresh}
use Rattle.engine.specs.Follows.{AreSound}
use Rattle.world_start.specs.Opening.{AreSynced}

-- four files that hold no world
pub record AreClosed (image_a image_b log_a log_b : List ℕ) : Type 0 where
  pub image_a_closed : image_of image_a ≡ Closed
  pub image_b_closed : image_of image_b ≡ Closed
  pub log_a_closed : IsSegment log_a ClosedSegment
  pub log_b_closed : IsSegment log_b ClosedSegment

abbrev pub FilesAreClosed : {D : Type 0} → (file : D → List ℕ) → FourFiles D → Type 0
FilesAreClosed file files =
    AreClosed (file files.image_a) (file files.image_b) (file files.log_a) (file files.log_b)

module _ {D : Type 0} (disk : Ghosts D) where
  -- whatever a crash leaves of the files is no world yet, or one of these first words at tick 0
  abbrev pub AreFreshOrSound : FourFiles D → (first : List ℕ) → Type 0
  AreFreshOrSound files first =
      IsFresh (disk.may_leave files.image_a) (disk.may_leave files.image_b)
      (disk.may_leave files.log_a) (disk.may_leave files.log_b) first
      ⊎ AreSound disk files first [] 0

  -- The files held no world, and log.a is now open. If the files were synced, they now hold a world
  -- of zeros at tick 0 and are synced again.
  pub record AreMade (files : FourFiles D) (cells : ℕ) (made : FourFiles D) : Type 0 where
    pub closed : FilesAreClosed disk.content files
    pub sound : AreSynced disk files → AreSound disk made (replicate cells 0) [] 0
    pub synced : AreSynced disk files → AreSynced disk made
    pub log : IsSegment (disk.content made.log_a) (OpenSegment 0 [])

  -- No world was made: the files hold one, memory ran out, or a device failed. Unless a device
  -- failed, the files were only read. If they were synced and held no world, whatever a crash
  -- leaves of them is no world yet, or one of zeros at tick 0.
  pub record AreNotMade (files : FourFiles D) (cells : ℕ) (refusal : Refusal)
      (left : FourFiles D) : Type 0 where
    pub not_empty : refusal ≡ NotEmpty → ¬ FilesAreClosed disk.content files
    pub kept : refusal ≢ Device → EachFile files left (KeepsFile disk)
    pub safe : AreSynced disk files → FilesAreClosed disk.content files
        → AreFreshOrSound left (replicate cells 0)
