-- The reasons why no world is served from four files.
use Rattle.std.specs.Prelude.{ℕ, IsTrue, List}
use Rattle.disk_model.specs.declared.disk.Disk.{Ghosts}
use Rattle.disk_model.specs.declared.four_files.FourFiles.{FourFiles}
use Rattle.recovery.specs.Recovery.{Recovery}
use Rattle.world_start.specs.Opening.{IsRefused, RecoversFiles}
use Rattle.world_folder.specs.Lost.{IsRefusing, RefusedIn}
use Rattle.world_folder.specs.declared.lost.Checks.{Checks}
use Rattle.world_folder.specs.declared.lost.Lost.{Lost}
use Rattle.world_folder.specs.declared.checked.NotRecovered.{NotRecovered}
use Rattle.world_folder.specs.declared.checked.NotRecovered.TheVariants as why

-- a world is recovered from the files, and the checks refuse them for this
pub record HasLost {D : Type 0} (file : D → List ℕ) (checks : Checks) (files : FourFiles D)
    (lost : Lost) : Type 0 where
  pub recovery : Recovery
  pub recovers : RecoversFiles file files recovery
  pub found : RefusedIn file checks recovery.tick recovery.from files lost

-- Recovery refuses the files, memory ran out, or a device failed. Or a world is recovered, and the
-- checks refuse it: a file of it was lost, or it is older than its guard.
abbrev pub IsUnrecovered : {D : Type 0} → Ghosts D → Checks → FourFiles D → NotRecovered → Type 0
IsUnrecovered disk checks files (why.Refused refusal) = IsRefused disk files refusal
IsUnrecovered disk checks files (why.Lost lost) =
    IsRefusing checks lost × (IsTrue disk.honest → HasLost disk.content checks files lost)
