-- The results of making a world and opening it at once.
use Rattle.std.specs.Prelude.{◌≡◌, ◌≢◌, ◌⊎◌, ℕ, IsTrue, List, [], replicate, Err}
use Rattle.world_actions.specs.declared.refusal.Refusal.{Refusal}
use Rattle.world_actions.specs.declared.refusal.Refusal.TheVariants.{Device, NoMemory, NotEmpty}
use Rattle.disk_model.specs.FourFiles.{EachFile, KeepsFile}
use Rattle.disk_model.specs.declared.four_files.FourFiles.{FourFiles}
use Rattle.disk_model.specs.declared.disk.Disk.{Ghosts}
use Rattle.world_start.specs.Opening.{AreSynced, RecoversAll}
use Rattle.world_start.specs.Fresh.{FilesAreClosed, AreFreshOrSound, AreMade}
use Rattle.serial_world.specs.declared.state.SerialState.{SerialState}
use Rattle.serial_world.specs.Runs.{words_of, Serves}

module _ {D : Type 0} (disk : Ghosts D) where
  -- The reasons why no new world is served: the files hold a world, memory ran out, a device
  -- failed, or recovery refuses the bytes that were read of the new files. On files that keep to
  -- the disk model and were synced, recovery refuses none.
  abbrev pub IsRefusedNew : FourFiles D → Refusal → Type 0
  IsRefusedNew files refusal =
      (refusal ≡ NotEmpty) ⊎ ((refusal ≡ NoMemory) ⊎ ((refusal ≡ Device)
      ⊎ ((bytes : FourFiles (List ℕ)) × RecoversAll bytes (Err refusal)
      × (IsTrue disk.honest → AreSynced disk files → ⊥))))

  -- the files were only read, or they are those of the new world and were only read since
  abbrev pub AreKeptOrMade : FourFiles D → (cells : ℕ) → (left : FourFiles D) → Type 0
  AreKeptOrMade files cells left =
      EachFile files left (KeepsFile disk) ⊎ ((made : FourFiles D) × AreMade disk files cells made
      × EachFile made left (KeepsFile disk))

  -- No new world is served. `NotEmpty` comes only if one of the files isn't closed. If the
  -- files were synced and closed, whatever a crash leaves of them is no world yet, or one of
  -- zeros at tick 0.
  pub record IsNotCreated (files : FourFiles D) (cells : ℕ) (refusal : Refusal)
      (left : FourFiles D) : Type 0 where
    pub not_empty : refusal ≡ NotEmpty → ¬ FilesAreClosed disk.content files
    pub kept : refusal ≢ Device → AreKeptOrMade files cells left
    pub safe : AreSynced disk files → FilesAreClosed disk.content files
        → AreFreshOrSound disk left (replicate cells 0)

-- a world of zeros at tick 0 is served, with no tick ended
pub record IsServedFresh {C D : Type 0} (disk : Ghosts D) (cells : ℕ)
    (s : SerialState C D) : Type 0 where
  pub cells_are : s.engine.images.cells ≡ cells
  pub words : words_of disk s ≡ replicate cells 0
  pub ended : s.engine.ended ≡ 0
  pub acked : s.acked ≡ 0
  pub serves : Serves disk s (replicate cells 0) []
