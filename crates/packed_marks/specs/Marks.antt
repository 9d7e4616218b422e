-- The marks in words, as a list.
use Rattle.std.specs.Prelude.{◌≡◌, ℕ, List, length, map, Bool}
use Rattle.std.specs.List.{range_with_len}
use Rattle.packed_marks.specs.Bits.{chunks, marked, AreSpareClear}

-- the marks of n cells
abbrev pub marks_of : ℕ → List ℕ → List Bool
marks_of n words = map (marked words) (range_with_len 0 n)

-- the facts that hold for the words of n cells: there are just enough words, and no bit past the
-- last cell is set
pub record IsPacked (n : ℕ) (words : List ℕ) : Type 0 where
  pub words_length : length words ≡ chunks n
  pub spare : AreSpareClear n words
