-- A keeper as contracts see it.
use Rattle.std.specs.Prelude.{◌≡◌, ℕ, ◌+◌, ◌-◌, ◌*◌, ◌/◌, ◌<◌, ◌≤◌, min, Bool, true, false, Option}
use Rattle.std.specs.Prelude.{Some, None, is_some, List, [], ◌++◌, length, drop, if◌then◌else◌}
use Rattle.world_ticks.specs.declared.tick.TheConstants.{TICK_MAX}
use Rattle.file_format.specs.declared.slot.Slot.{Slot}
use Rattle.file_format.specs.declared.slot.Slot.TheVariants.{A}
use Rattle.file_format.specs.Slot.{other_slot, of_slot}
use Rattle.capture_core.specs.declared.taker.Taken.{Taken}
use Rattle.image_files.specs.declared.format.TheConstants.{CELLS_MAX, HEADER_BYTES}
use Rattle.image_files.specs.declared.chunk.TheConstants.{CHUNK_CELLS}
use Rattle.image_files.specs.declared.phase.Phase.{Phase}
use Rattle.image_files.specs.declared.phase.Phase.TheVariants.{Idle, Closing, ClosingSync, Header}
use Rattle.image_files.specs.declared.phase.Phase.TheVariants.{Taking, Reading, Writing, BodySync}
use Rattle.image_files.specs.declared.phase.Phase.TheVariants.{Opening, OpeningSync, Down}
use Rattle.image_files.specs.Image.{words_from}
use Rattle.image_files.specs.Images.{Round}
use Rattle.image_files.specs.Taken.{filled_words, has_same}

-- the progress of a keeper's round, and its data on its two files
pub record Progress : Type 0 where
  -- the number of cells of the world
  pub cells : ℕ
  -- the file of the newest image, and its tick
  pub newest : Option (Slot × ℕ)
  -- true if the file that the round writes, or the next round will, is known to be shut; then the
  -- same for the other file
  pub target_shut : Bool
  pub newest_shut : Bool
  pub phase : Phase
  -- the tick of the round in work, or of the last round
  pub tick : ℕ
  -- the number of the round's cells that are written to the target
  pub written : ℕ
  -- the cells taken after them
  pub chunk : List Taken

-- the file that the round writes, or the next round will
abbrev pub target_of : Option (Slot × ℕ) → Slot
target_of None = A
target_of (Some (slot, tick)) = other_slot slot

-- the tick of the newest image, 0 before the first
abbrev pub newest_tick : Option (Slot × ℕ) → ℕ
newest_tick None = 0
newest_tick (Some newest) = newest.1

-- ---- the words of the round

-- the words of the newest image, in its file
abbrev pub newest_words : Progress → (newest : List ℕ) → List ℕ
newest_words keeper newest =
    if is_some keeper.newest then words_from newest HEADER_BYTES keeper.cells else []

-- the words taken so far: those in the target, and those of the cells after them
abbrev pub done : Progress → (target newest : List ℕ) → List ℕ
done keeper target newest =
    words_from target HEADER_BYTES keeper.written
    ++ filled_words keeper.chunk (drop keeper.written (newest_words keeper newest))

-- the tick of the round in work, and the words taken so far
abbrev pub round_so_far : Progress → (target newest : List ℕ) → Round
round_so_far keeper target newest = record { tick = keeper.tick; taken = done keeper target newest }

-- a round is in work in each phase except Idle
abbrev pub round_in_phase : Phase → Round → Option Round
round_in_phase Idle round = None
round_in_phase phase round = Some round

-- the round in work
abbrev pub round_of : Progress → (target newest : List ℕ) → Option Round
round_of keeper target newest = round_in_phase keeper.phase (round_so_far keeper target newest)

-- the number of cells of the round that are taken
abbrev pub cells_taken : Progress → ℕ
cells_taken keeper = keeper.written + length keeper.chunk

-- ---- the facts on every keeper

-- the number of cells of the chunk in work once it is full
abbrev pub chunk_size : Progress → ℕ
chunk_size keeper = min CHUNK_CELLS (keeper.cells - keeper.written)

-- the numbers of written and taken cells, by phase
abbrev pub PhaseFits : Phase → Progress → Type 0
PhaseFits Idle keeper = Unit {0}
PhaseFits Down keeper = Unit {0}
PhaseFits Closing keeper = (keeper.written ≡ 0) × (keeper.chunk ≡ [])
PhaseFits ClosingSync keeper = (keeper.written ≡ 0) × (keeper.chunk ≡ [])
PhaseFits Header keeper = (keeper.written ≡ 0) × (keeper.chunk ≡ [])
PhaseFits Taking keeper = length keeper.chunk < chunk_size keeper
PhaseFits Reading keeper =
    (length keeper.chunk ≡ chunk_size keeper) × (keeper.written < keeper.cells)
    × (is_some keeper.newest ≡ true)
PhaseFits Writing keeper =
    (length keeper.chunk ≡ chunk_size keeper) × (keeper.written < keeper.cells)
    × (is_some keeper.newest ≡ true → has_same keeper.chunk ≡ false)
PhaseFits phase keeper = (keeper.written ≡ keeper.cells) × (keeper.chunk ≡ [])

-- the number of cells and the tick are within their bounds, and no more cells are
-- taken than there are
pub record IsInOrder (keeper : Progress) : Type 0 where
  pub some : 1 ≤ keeper.cells
  pub most : keeper.cells ≤ CELLS_MAX
  pub ticks : keeper.tick ≤ TICK_MAX
  pub within : keeper.written + length keeper.chunk ≤ keeper.cells
  pub by_phase : PhaseFits keeper.phase keeper

-- ---- the moves that a round can still need

-- the number of chunks that these cells need
abbrev pub chunks : ℕ → ℕ
chunks cells = (cells + (CHUNK_CELLS - 1)) / CHUNK_CELLS

-- by phase: one take for each cell that is left, and at most one read and one write for each chunk
abbrev pub moves_left : Phase → Progress → ℕ
moves_left Closing keeper = keeper.cells + 2 * chunks keeper.cells + 6
moves_left ClosingSync keeper = keeper.cells + 2 * chunks keeper.cells + 5
moves_left Header keeper = keeper.cells + 2 * chunks keeper.cells + 4
moves_left Taking keeper =
    keeper.cells - (keeper.written + length keeper.chunk) + 2
    * chunks (keeper.cells - keeper.written) + 3
moves_left Reading keeper =
    keeper.cells - (keeper.written + length keeper.chunk) + 2
    * chunks (keeper.cells - keeper.written) + 3
moves_left Writing keeper =
    keeper.cells - (keeper.written + length keeper.chunk) + 2
    * chunks (keeper.cells - keeper.written) + 2
moves_left BodySync keeper = 3
moves_left Opening keeper = 2
moves_left OpeningSync keeper = 1
moves_left phase keeper = 0

-- the moves that a keeper's round can still need
abbrev pub left_of : Progress → ℕ
left_of keeper = moves_left keeper.phase keeper

-- ---- how a keeper changes

-- a new keeper; the flags say if image.a and image.b are shut
abbrev pub made_keeper : ℕ → Option (Slot × ℕ) → (shut_a shut_b : Bool) → Progress
made_keeper cells newest shut_a shut_b = record {
  cells = cells;
  newest = newest;
  target_shut = of_slot (target_of newest) shut_a shut_b;
  newest_shut = of_slot (target_of newest) shut_b shut_a;
  phase = Idle;
  tick = 0;
  written = 0;
  chunk = [];
}

-- a round begins
abbrev pub begun_keeper : ℕ → Progress → Progress
begun_keeper tick keeper = record keeper {
  phase = (if keeper.target_shut then Header else Closing);
  tick = tick;
  written = 0;
  chunk = [];
}

-- the image of the round is opened: it is the newest one, and the files exchange their parts
abbrev pub opened_keeper : Progress → Progress
opened_keeper keeper = record keeper {
  phase = Idle;
  newest = Some (target_of keeper.newest, keeper.tick);
  target_shut = keeper.newest_shut;
  newest_shut = false;
}
