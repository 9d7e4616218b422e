-- A world at the beginning of its start. The last two parts are for private functions alone.
use Rattle.std.specs.Prelude.{◌≡◌, ℕ, true, false, List, [], All, replicate, Ok}
use Rattle.world_actions.specs.World.{IsWord}
use Rattle.disk_model.specs.declared.four_files.FourFiles.{FourFiles}
use Rattle.disk_model.specs.declared.disk.Disk.{Ghosts}
use Rattle.image_files.specs.declared.phase.Phase.TheVariants.{Down}
use Rattle.recovery.specs.Recovered.{recovery_of_answer}
use Rattle.recovery.specs.declared.recovered.Recovered.{Recovered}
use Rattle.engine.specs.World.{World}
use Rattle.engine.specs.Follows.{Follows}
use Rattle.world_start.specs.Opening.{AreSynced, RecoversBytes}
use Rattle.world_start.specs.Fresh.{FilesAreClosed}

-- the start lies ahead: both keepers are up, no tick is running or has ended since, and these are
-- the words
pub record IsAhead {D : Type 0} (world : World D) (words : List ℕ) : Type 0 where
  pub up : (world.images.phase ≡ Down → ⊥) × (world.log.down ≡ false)
  pub running : world.running ≡ []
  pub since : world.since ≡ 0
  pub words_are : words ≡ world.content.live
  pub limit : All IsWord words

-- ---- reading

-- recovery of the bytes that were read found this
abbrev pub IsFound : {D : Type 0} → (disk : Ghosts D) → FourFiles D → Recovered → Type 0
IsFound disk files found = RecoversBytes disk files (Ok (recovery_of_answer found))

-- ---- making files

-- a world of zeros begins its start on files that held none
pub record IsBegunFresh {D : Type 0} (disk : Ghosts D) (files : FourFiles D) (cells : ℕ)
    (world : World D) : Type 0 where
  pub closed : FilesAreClosed disk.content files
  pub ended : world.ended ≡ 0
  pub since : world.since ≡ 0
  pub starting : world.log.starting ≡ true
  pub queue : world.queue ≡ []
  pub follows : AreSynced disk files → Follows disk world (replicate cells 0) [] 0
