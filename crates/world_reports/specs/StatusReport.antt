-- The report on the status of a world.
use Rattle.std.specs.Prelude.{◌≡◌, ℕ, Bool, true, false, List, ◌∷◌, Option, Some, None}
use Rattle.world_folder.specs.Ending.{ending_of}
use Rattle.world_folder.specs.History.{Act, Printed}
use Rattle.world_folder.specs.declared.ending.Ending.{Ending}
use Rattle.world_folder.specs.declared.guard.Guard.{Guard}
use Rattle.world_folder.specs.declared.lost.Checks.{Checks}
use Rattle.world_reports.specs.Figures.{AreFigures}
use Rattle.world_reports.specs.Health.{ending_with, health_of, health_text}
use Rattle.world_reports.specs.Copy.{IsWorldSeen}
use Rattle.world_reports.specs.Reports.{NamesFailed, with_finding}
use Rattle.world_reports.specs.ServerReport.{IsServerReport}
use Rattle.world_reports.specs.Texts.{figures_text, guard_text, lengths_text, server_text}
use Rattle.world_reports.specs.declared.figures.Figures.{Figures as FiguresValue}
use Rattle.world_reports.specs.declared.copy.SeenWorld.{SeenWorld}
use Rattle.world_reports.specs.declared.server_report.ServerReport.{ServerReport}

-- after these acts the guard of the world was printed, if it has one
abbrev pub with_guard : Option Guard → List Act → List Act
with_guard None acts = acts
with_guard (Some guard) acts = Printed (guard_text guard) ∷ acts

-- The world in the files was seen, a read that failed at first was named, and what is found of a
-- loss. Then the world's figures were printed, the lengths of its files, and its guard. The command
-- ends by what was found.
pub record AreFiguresReported (checks : Checks) (ending : Ending)
    (before after : List Act) : Type 0 where
  pub world : SeenWorld
  pub figures : FiguresValue
  pub looked : List Act
  pub acts : List Act
  pub is_seen : IsWorldSeen checks world before looked
  pub failed : NamesFailed world.failed looked acts
  pub are_figures : AreFigures world.files world.found.world figures
  pub printed : after ≡ with_guard checks.guard (Printed (lengths_text world.lengths)
      ∷ Printed (figures_text figures) ∷ with_finding world.found.finding acts)
  pub ends : ending ≡ ending_of world.found.finding

-- the locks were asked for, and what they say was printed
pub record IsServerReported (reported : ServerReport) (before after : List Act) : Type 0 where
  pub acts : List Act
  pub is_reported : IsServerReport reported before acts
  pub printed : after ≡ Printed (server_text reported) ∷ acts

pub record IsStatusReported (checks : Checks) (ending : Ending) (server : ServerReport)
    (before after : List Act) : Type 0 where
  pub acts : List Act
  pub figures : AreFiguresReported checks ending before acts
  pub server_reported : IsServerReported server acts after

-- The status of a world was reported. If that was asked for, it was printed then whether the world
-- is well, by its server and the age of its guard, and the command ends by that.
abbrev pub IsHealthReported : (checks_health : Bool) → Checks → Ending
    → (before after : List Act) → Type 0
IsHealthReported false checks ending before after =
    (server : ServerReport) × IsStatusReported checks ending server before after
IsHealthReported true checks ending before after =
    (server : ServerReport) × (done : Ending) × (acts : List Act) × (age : Option ℕ)
    × IsStatusReported checks done server before acts
    × (after ≡ Printed (health_text (health_of server age)) ∷ acts)
    × (ending ≡ ending_with (health_of server age) done)
