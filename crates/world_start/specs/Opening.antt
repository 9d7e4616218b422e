-- The result of recovering the files of a world.
use Rattle.std.specs.Prelude.{◌≡◌, ◌⊎◌, ◌≤◌, ℕ, IsTrue, List, [], take}
use Rattle.std.specs.Prelude.{Result, Ok, Err}
use Rattle.world_actions.specs.declared.action.Action.{Action}
use Rattle.world_actions.specs.declared.refusal.Refusal.{Refusal}
use Rattle.world_actions.specs.declared.refusal.Refusal.TheVariants.{Device, NoMemory}
use Rattle.disk_model.specs.Disk.{Only}
use Rattle.disk_model.specs.declared.disk.Disk.{Ghosts}
use Rattle.disk_model.specs.FourFiles.{EachFile, fault_counts, mapped}
use Rattle.disk_model.specs.declared.four_files.FourFiles.{FourFiles}
use Rattle.recovery.specs.Recovery.{Recovery, Recovers}
use Rattle.recovery.specs.Sound.{IsFresh}
use Rattle.engine.specs.World.{World}
use Rattle.engine.specs.Follows.{Follows, AreSound}
use Rattle.engine.specs.Runs.{HasNewest, SomeGrew}

-- ---- the files

module _ {D : Type 0} (disk : Ghosts D) where
  -- nothing of the files is unsynced
  abbrev pub AreSynced : FourFiles D → Type 0
  AreSynced files = EachFile files files (λ file _. Only (disk.content file) (disk.may_leave file))

  -- Nothing of the files is unsynced. They are sound for these ticks and this acknowledged count,
  -- or those of a new world, of which no tick has ended.
  pub record AreOfWorld (files : FourFiles D) (first : List ℕ) (ticks : List (List Action))
      (acknowledged : ℕ) : Type 0 where
    pub synced : AreSynced files
    pub world : AreSound disk files first ticks acknowledged
        ⊎ (IsFresh (disk.may_leave files.image_a) (disk.may_leave files.image_b)
        (disk.may_leave files.log_a) (disk.may_leave files.log_b) first × (ticks ≡ [])
        × (acknowledged ≡ 0))

-- recovery of four files with these bytes has this result
abbrev pub RecoversAll : FourFiles (List ℕ) → Result Recovery Refusal → Type 0
RecoversAll bytes result =
    Recovers bytes.image_a bytes.image_b bytes.log_a bytes.log_b result

-- recovery of the bytes that reads of the files give has this result
abbrev pub RecoversFiles : {D : Type 0} → (file : D → List ℕ) → FourFiles D → Recovery → Type 0
RecoversFiles file files r = RecoversAll (mapped file files) (Ok r)

module _ {D : Type 0} (disk : Ghosts D) where
  -- recovery of the bytes that were read has this result; on files that keep to the disk model, the
  -- bytes are what the files hold
  pub record RecoversBytes (files : FourFiles D) (result : Result Recovery Refusal) : Type 0 where
    pub bytes : FourFiles (List ℕ)
    pub recovers : RecoversAll bytes result
    pub read : IsTrue disk.honest → bytes ≡ mapped disk.content files

  -- The reasons why no world is recovered: memory ran out, a device failed, or recovery refuses the
  -- bytes that were read.
  abbrev pub IsRefused : FourFiles D → Refusal → Type 0
  IsRefused files refusal =
      (refusal ≡ NoMemory) ⊎ ((refusal ≡ Device) ⊎ RecoversBytes files (Err refusal))

-- a refusal by a device comes only if the count of a file's faults grew
abbrev pub HasFaulted : {D : Type 0} → (faults : D → ℕ)
    → (files left : FourFiles D) → Refusal → Type 0
HasFaulted faults files left refusal =
    refusal ≡ Device → SomeGrew (fault_counts faults files) (fault_counts faults left)

-- the world and these ticks agree with the recovery
pub record IsRecovered {D : Type 0} (disk : Ghosts D) (files : FourFiles D)
    (world : World D) (tick from : ℕ) : Type 0 where
  pub recovery : Recovery
  pub recovers : RecoversBytes disk files (Ok recovery)
  pub tick_is : tick ≡ recovery.tick
  pub from_is : from ≡ recovery.from
  pub words : world.content.live ≡ recovery.words
  pub ended : world.ended ≡ recovery.tick

-- the world agrees with the recovery of the files, and no tick has ended since
pub record MatchesRecovery {D : Type 0} (file : D → List ℕ) (files : FourFiles D)
    (world : World D) (from : ℕ) : Type 0 where
  pub recovery : Recovery
  pub recovers : RecoversFiles file files recovery
  pub is_from : from ≡ recovery.from
  pub words : world.content.live ≡ recovery.words
  pub ended : world.ended ≡ recovery.tick
  pub since : world.since ≡ 0

module _ {D : Type 0} (disk : Ghosts D) where
  -- The world begins the start of the recovered one. If the files were those of a world, it follows
  -- the recovered ones of its ticks. All acknowledged ticks are among these, and each of these
  -- counts as acknowledged.
  pub record IsRead (files : FourFiles D) (world : World D) (from : ℕ) : Type 0 where
    pub matches : MatchesRecovery disk.content files world from
    pub open matches use *
    pub newest : HasNewest world.images
    pub follows : (first : List ℕ) (ticks : List (List Action)) (acknowledged : ℕ)
        → AreOfWorld disk files first ticks acknowledged → (acknowledged ≤ recovery.tick)
        × Follows disk world first (take recovery.tick ticks) recovery.tick
