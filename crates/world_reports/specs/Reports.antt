-- The reports that commands print.
use Rattle.std.specs.Prelude.{◌≡◌, ℕ, List, ◌∷◌, Option, Some, None}
use Rattle.world_folder.specs.Ending.{ending_of}
use Rattle.world_folder.specs.History.{Act, GuardRead, Printed, Warned}
use Rattle.world_folder.specs.Texts.{finding_line, recovered_line}
use Rattle.world_folder.specs.declared.ending.Ending.{Ending}
use Rattle.world_folder.specs.declared.lost.Finding.{Finding}
use Rattle.world_folder.specs.declared.lost.Checks.{Checks}
use Rattle.world_folder.specs.declared.lost.OnLoss.{OnLoss}
use Rattle.world_folder.specs.declared.lost.OnLoss.TheVariants.{Warn}
use Rattle.world_reports.specs.Copy.{IsWorldSeen}
use Rattle.world_reports.specs.declared.copy.SeenWorld.{SeenWorld}

-- The guard of a world was read, and then a command used its files by these checks. They don't
-- refuse a world that is older than its guard.
pub record IsGuardRead (on_loss : OnLoss) (IsUsed : Checks → (before after : List Act) → Type 0)
    (before after : List Act) : Type 0 where
  pub checks : Checks
  pub acts : List Act
  pub named : (checks.lost ≡ on_loss) × (checks.older ≡ Warn)
  pub guard_is : acts ≡ GuardRead checks.guard ∷ before
  pub used : IsUsed checks acts after

-- what is found of four files is named on standard error
abbrev pub with_finding : Option Finding → List Act → List Act
with_finding None acts = acts
with_finding (Some found) acts = Warned (finding_line found) ∷ acts

-- a file whose read failed, and was tried again, is named on standard error
abbrev pub NamesFailed : {X : Type 0} → Option X → (before after : List Act) → Type 0
NamesFailed None before after = after ≡ before
NamesFailed (Some failed) before after = (text : List ℕ) × (after ≡ Warned text ∷ before)

-- The world in the files was seen, a read that failed at first was named, what is found of a loss
-- was named, and the world was printed. The command ends by what was found.
pub record IsWorldReported (checks : Checks) (ending : Ending)
    (before after : List Act) : Type 0 where
  pub world : SeenWorld
  pub looked : List Act
  pub acts : List Act
  pub is_seen : IsWorldSeen checks world before looked
  pub failed : NamesFailed world.failed looked acts
  pub printed : after ≡ Printed (recovered_line world.found.world.tick world.found.world.from)
      ∷ with_finding world.found.finding acts
  pub ends : ending ≡ ending_of world.found.finding
