-- The results of opening a world.
use Rattle.std.specs.Prelude.{◌≡◌, ◌≢◌, ℕ, List, take}
use Rattle.world_actions.specs.declared.action.Action.{Action}
use Rattle.world_actions.specs.declared.refusal.Refusal.{Refusal}
use Rattle.world_actions.specs.declared.refusal.Refusal.TheVariants.{Device}
use Rattle.disk_model.specs.FourFiles.{EachFile, KeepsFile}
use Rattle.disk_model.specs.declared.four_files.FourFiles.{FourFiles}
use Rattle.disk_model.specs.declared.disk.Disk.{Ghosts}
use Rattle.recovery.specs.Recovery.{Recovery}
use Rattle.engine.specs.Follows.{AreSound}
use Rattle.world_start.specs.Opening.{AreSynced, RecoversFiles}
use Rattle.serial_world.specs.declared.state.SerialState.{SerialState}
use Rattle.serial_world.specs.Runs.{words_of, Serves}

-- The recovered world is served, and all its ticks are acknowledged again. If the files were
-- synced and sound for some ticks, the recovered ones among them are served, and no fewer than
-- were acknowledged.
pub record IsOpened {C D : Type 0} (disk : Ghosts D) (files : FourFiles D)
    (s : SerialState C D) : Type 0 where
  pub recovery : Recovery
  pub recovers : RecoversFiles disk.content files recovery
  pub recovered : s.recovered ≡ (recovery.tick, recovery.from)
  pub words : words_of disk s ≡ recovery.words
  pub ended : s.engine.ended ≡ recovery.tick
  pub acked : s.acked ≡ recovery.tick
  pub serves : (first : List ℕ) (ticks : List (List Action)) (acknowledged : ℕ)
      → AreSynced disk files → AreSound disk files first ticks acknowledged
      → Serves disk s first (take recovery.tick ticks)

module _ {D : Type 0} (disk : Ghosts D) where
  -- No world is opened. The files were only read, except if a device failed, and sound
  -- files stay sound.
  pub record IsNotOpened (files : FourFiles D) (refusal : Refusal)
      (left : FourFiles D) : Type 0 where
    pub kept : refusal ≢ Device → EachFile files left (KeepsFile disk)
    pub sound : (first : List ℕ) (ticks : List (List Action)) (acknowledged : ℕ)
        → AreSynced disk files → AreSound disk files first ticks acknowledged
        → AreSound disk left first ticks acknowledged
