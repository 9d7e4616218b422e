-- The figures of a world.
use Rattle.std.specs.Prelude.{◌≡◌, ℕ, nat_lt, List, length, Option, Some, None, if◌then◌else◌}
use Rattle.file_format.specs.declared.slot.Slot.{Slot}
use Rattle.file_format.specs.declared.slot.Slot.TheVariants.{A, B}
use Rattle.recovery.specs.declared.recovered.Recovered.{Recovered}
use Rattle.world_reports.specs.declared.figures.Figures.{Figures as FiguresValue}
use Rattle.action_log.specs.Segment.{Tick, IsOpenSegment}
use Rattle.world_folder.specs.Fault.{Files}

-- the base of an open segment, and how many ticks it has
abbrev pub IsOpened : List ℕ → Option (ℕ × ℕ) → Type 0
IsOpened bytes (Some (base, count)) =
    (ticks : List Tick) × IsOpenSegment bytes base ticks × (length ticks ≡ count)
IsOpened bytes None = (base : ℕ) (ticks : List Tick) → ¬ IsOpenSegment bytes base ticks

-- of two segments the open one with the greater base, log.b if both have it, and how
-- many ticks it has
abbrev pub current_segment : Option (ℕ × ℕ) → Option (ℕ × ℕ) → Option (Slot × ℕ)
current_segment (Some (s, m)) (Some (t, n)) = if nat_lt t s then Some (A, m) else Some (B, n)
current_segment (Some (s, m)) None = Some (A, m)
current_segment None (Some (t, n)) = Some (B, n)
current_segment None None = None

-- these are the figures of a world that was found in four files, and of the segment that the log
-- continues in
pub record AreFigures (files : Files) (found : Recovered) (figures : FiguresValue) : Type 0 where
  pub tick : figures.found.world.tick ≡ found.tick
  pub image : figures.found.world.from ≡ found.from
  pub slot : figures.found.slot ≡ found.slot
  pub log_a : Option (ℕ × ℕ)
  pub log_b : Option (ℕ × ℕ)
  pub opened_a : IsOpened files.log_a.items log_a
  pub opened_b : IsOpened files.log_b.items log_b
  pub segment : figures.segment ≡ current_segment log_a log_b
