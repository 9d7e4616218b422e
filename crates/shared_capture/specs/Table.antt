-- The layout of the table: the phase, two arrays of words, and two rows of mark words.
use Rattle.std.specs.Prelude.{◌≡◌, ℕ, ◌+◌, ◌<◌, ◌^◌, Bool, true, false}
use Rattle.atomic_table.specs.Seated.{TableId}
use Rattle.packed_marks.specs.Bits.{chunks}

-- the place of cell i in the first array, or in the second
abbrev pub cell_place : ℕ → Bool → ℕ → ℕ
cell_place n false i = 1 + i
cell_place n true i = 1 + n + i

-- the place of word k of the first row of marks, or of the second
abbrev pub mark_place : ℕ → Bool → ℕ → ℕ
mark_place n false k = 1 + n + n + k
mark_place n true k = 1 + n + n + chunks n + k

-- the number of words of the table of n cells
abbrev pub table_words : ℕ → ℕ
table_words n = 1 + n + n + chunks n + chunks n

-- the table is one of n cells
abbrev pub HasCells : ℕ → TableId → Type 0
HasCells n t = (t.words ≡ table_words n) × (n < 2 ^ 60)
