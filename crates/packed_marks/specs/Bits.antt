-- Marks of cells, 64 to a word.
use Rattle.std.specs.Prelude.{◌≡◌, ℕ, ◌+◌, ◌*◌, ◌/◌, ◌%◌, ◌<◌, ◌≤◌, ◌==◌, List, length, slice_index}
use Rattle.std.specs.Prelude.{Bool, true, false}
use Rattle.std.specs.Int.{bit_at}

-- the number of words that the marks of n cells take
abbrev pub chunks : ℕ → ℕ
chunks n = (n + 63) / 64

-- true if bit j of a word is set
unfoldable pub is_set : ℕ → ℕ → Bool
is_set word j = bit_at word j == 1

-- the mark of cell i: bit i mod 64 of word i / 64, the lowest bit first
abbrev pub marked : List ℕ → ℕ → Bool
marked words i = is_set (slice_index words (i / 64)) (i % 64)

-- no bit past the last of n cells is set
abbrev pub AreSpareClear : ℕ → List ℕ → Type 0
AreSpareClear n words = (i : ℕ) → n ≤ i → i < 64 * length words → marked words i ≡ false

-- each of n cells is marked, and no bit past them is set
pub record IsFull (n : ℕ) (words : List ℕ) : Type 0 where
  pub words_length : length words ≡ chunks n
  pub cells : (i : ℕ) → i < n → marked words i ≡ true
  pub spare : AreSpareClear n words
