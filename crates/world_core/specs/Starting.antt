-- A core at the beginning of a start, of a fresh world or after a crash.
use Rattle.std.specs.Prelude.{◌≡◌, ◌≤◌, ℕ, List, [], Bool, Option, Some, None, Ok}
use Rattle.std.specs.Prelude.{Err, replicate}
use Rattle.world_actions.specs.declared.refusal.Refusal.TheVariants.{NoImage}
use Rattle.world_ticks.specs.declared.tick.TheConstants.{TICK_MAX}
use Rattle.file_format.specs.declared.slot.Slot.{Slot}
use Rattle.disk_model.specs.Disk.{Only}
use Rattle.disk_model.specs.CrashOutcome.{IsCrashOutcome}
use Rattle.disk_model.specs.declared.four_files.FourFiles.{FourFiles}
use Rattle.recovery.specs.Recovery.{Recovery, Recovers}
use Rattle.restart.specs.Start.{is_shut}
use Rattle.engine.specs.Begins.{Begins as WorldBegins}
use Rattle.world_core.specs.declared.moves.Answer.{Answer}
use Rattle.world_core.specs.declared.moves.Answer.TheVariants as answer
use Rattle.world_core.specs.State.{File, State}

-- these bytes are what reads give, and all that a crash may leave
pub record HasOnly (bytes : List ℕ) (file : File) : Type 0 where
  pub content : file.inner.content ≡ bytes
  pub only : Only bytes (IsCrashOutcome file.inner)

-- the same of four files
pub record AreFiles (image_a image_b log_a log_b : List ℕ) (files : FourFiles File) : Type 0 where
  pub file_a : HasOnly image_a files.image_a
  pub file_b : HasOnly image_b files.image_b
  pub file_la : HasOnly log_a files.log_a
  pub file_lb : HasOnly log_b files.log_b

-- which of four files with these bytes are shut
abbrev pub gates_of : (image_a image_b log_a log_b : List ℕ) → FourFiles Bool
gates_of image_a image_b log_a log_b = record {
  image_a = is_shut image_a;
  image_b = is_shut image_b;
  log_a = is_shut log_a;
  log_b = is_shut log_b;
}

-- a start at this tick and of these words, from this newest image, on four files with these bytes
pub record Begins (newest : Option (Slot × ℕ)) (tick : ℕ) (words : List ℕ)
    (image_a image_b log_a log_b : List ℕ) (new : State) : Type 0 where
  pub world : WorldBegins newest tick words (gates_of image_a image_b log_a log_b) new.files new
  pub files : AreFiles image_a image_b log_a log_b new.files

-- a fresh world on four empty files
abbrev pub BeginsFresh : (cells : ℕ) → State → Type 0
BeginsFresh cells new = Begins None 0 (replicate cells 0) [] [] [] [] new

-- recovery of four files agrees with this answer, and the core begins a start from
-- what was recovered
abbrev pub StandsOn : (cells : ℕ) → (image_a image_b log_a log_b : List ℕ) → Answer → State → Type 0
StandsOn cells image_a image_b log_a log_b (answer.Recovered tick from) new =
    (r : Recovery) × Recovers image_a image_b log_a log_b (Ok r) × (tick ≡ r.tick)
    × (from ≡ r.from) × (r.tick ≤ TICK_MAX)
    × Begins (Some (r.slot, r.from)) r.tick r.words image_a image_b log_a log_b new
StandsOn cells image_a image_b log_a log_b answer.Blank new =
    Recovers image_a image_b log_a log_b (Err NoImage)
    × Begins None 0 (replicate cells 0) image_a image_b log_a log_b new
StandsOn cells image_a image_b log_a log_b given new = ⊥
