-- The format of an image file, as a definition on the whole list of its bytes.
use Rattle.std.specs.Prelude.{ℕ, zero, suc, ◌+◌, ◌*◌, List, [], ◌∷◌, ◌++◌, Bool, ◌&&◌, ◌==◌, nat_le}
use Rattle.std.specs.Prelude.{Option, Some, None, if◌then◌else◌, length, drop, get_or}
use Rattle.std.specs.List.{list_all, flat_map}
use Rattle.world_actions.specs.declared.world.TheConstants.{LIMIT}
use Rattle.world_ticks.specs.declared.tick.TheConstants.{TICK_MAX}
use Rattle.file_format.specs.declared.gate.TheConstants.{OPEN_GATE}
use Rattle.file_format.specs.declared.format.Format.{Format}
use Rattle.file_format.specs.declared.format.Format.TheVariants.{First, Second}
use Rattle.file_format.specs.Number.{number_of, number_bytes}
use Rattle.file_format.specs.Format.{marked_of, marked_in}
use Rattle.image_files.specs.declared.format.TheConstants.{FIRST_CELLS_MAX, CELLS_MAX, TICK_PLACE}
use Rattle.image_files.specs.declared.format.TheConstants.{HEADER_BYTES, WORD_BYTES}

-- the reading of a file of any bytes: closed, bad, or open with a tick and words
pub data Image : Type 0 where
  Closed : Image
  Bad : Image
  Open : ℕ → List ℕ → Image

-- the number at a place
abbrev pub number_at : List ℕ → ℕ → ℕ
number_at bytes place = number_of WORD_BYTES (drop place bytes)

-- `n` words, one after the other from a place on
abbrev pub words_from : List ℕ → ℕ → ℕ → List ℕ
words_from bytes place zero = []
words_from bytes place (suc n) = number_at bytes place ∷ words_from bytes (place + WORD_BYTES) n

-- the bytes after the gate: the number of cells, with the mark of the format, and the tick
abbrev pub header_bytes : Format → (cells tick : ℕ) → List ℕ
header_bytes format cells tick =
    number_bytes WORD_BYTES (marked_of format cells) ++ number_bytes WORD_BYTES tick

-- the greatest number of cells that an image of a format may have
abbrev pub cells_most : Format → ℕ
cells_most First = FIRST_CELLS_MAX
cells_most Second = CELLS_MAX

-- the number of cells, if an image of the format may have so many
abbrev pub cells_of : Option (Format × ℕ) → Option ℕ
cells_of None = None
cells_of (Some (format, cells)) =
    if nat_le 1 cells && nat_le cells (cells_most format) then Some cells else None

-- the number of cells in the header
abbrev pub cells_in : List ℕ → Option ℕ
cells_in bytes = cells_of (marked_in bytes)

-- the tick in the header
abbrev pub tick_in : List ℕ → ℕ
tick_in bytes = number_at bytes TICK_PLACE

-- true if a cell may hold this number
abbrev pub is_word : ℕ → Bool
is_word word = nat_le word LIMIT

-- true if the gate is open and the header is there
abbrev pub is_open : List ℕ → Bool
is_open bytes = nat_le HEADER_BYTES (length bytes) && (get_or bytes 0 0 == OPEN_GATE)

-- true if the tick of an open file is within its bound, and the file has a word for
-- each of its cells
abbrev pub is_whole : List ℕ → ℕ → ℕ → Bool
is_whole bytes cells tick =
    nat_le tick TICK_MAX && nat_le (HEADER_BYTES + WORD_BYTES * cells) (length bytes)
    && list_all is_word (words_from bytes HEADER_BYTES cells)

-- the reading of an open file with this header
abbrev pub open_image : List ℕ → Option ℕ → ℕ → Image
open_image bytes None tick = Bad
open_image bytes (Some cells) tick =
    if is_whole bytes cells tick then Open tick (words_from bytes HEADER_BYTES cells) else Bad

-- the reading of a file; bytes after the last word are ignored
unfoldable pub image_of : List ℕ → Image
image_of bytes = if is_open bytes then open_image bytes (cells_in bytes) (tick_in bytes) else Closed

-- the bytes of an open image
abbrev pub image_bytes : Format → ℕ → List ℕ → List ℕ
image_bytes format tick words =
    OPEN_GATE
    ∷ (header_bytes format (length words) tick ++ flat_map (number_bytes WORD_BYTES) words)
