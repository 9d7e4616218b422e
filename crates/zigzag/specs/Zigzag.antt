-- The two arrays of words, the two marks of each cell, and the effect of each call on them.
use Rattle.std.specs.Prelude.{◌≡◌, ◌≤◌, ◌+◌, ℕ, Bool, true, false, not, List, [], ◌∷◌, length, drop}
use Rattle.std.specs.Prelude.{map, replicate, All, slice_set, if◌then◌else◌}
use Rattle.std.specs.List.{slice_index_or}
use Rattle.world_actions.specs.World.{IsWord}
use Rattle.capture_core.specs.Content.{Content, all_touched}

-- The words of both arrays, and the number of taken cells of the round. A set read mark sends a
-- cell's reads to array one, and a set write mark its writes.
pub record Arrays : Type 0 where
  pub array_zero : List ℕ
  pub array_one : List ℕ
  pub read_marks : List Bool
  pub write_marks : List Bool
  pub taken : ℕ

-- each cell's word in the array that its mark names: array one if the mark is set, else array zero
abbrev pub words_at : List Bool → List ℕ → List ℕ → List ℕ
words_at [] zeros ones = []
words_at (mark ∷ marks) [] ones = []
words_at (mark ∷ marks) (zero_word ∷ zeros) [] = []
words_at (mark ∷ marks) (zero_word ∷ zeros) (one_word ∷ ones) =
    (if mark then one_word else zero_word) ∷ words_at marks zeros ones

-- the words that reads take
abbrev pub live_words : Arrays → List ℕ
live_words store = words_at store.read_marks store.array_zero store.array_one

-- the words that no write changes before the next mark
abbrev pub captured_words : Arrays → List ℕ
captured_words store = words_at (map not store.write_marks) store.array_zero store.array_one

-- the content of a store; every round hands out a word for each cell, so each cell
-- counts as touched
abbrev pub content_of : Arrays → Content
content_of store = all_touched (live_words store) (drop store.taken (captured_words store))

-- the facts that hold for every store
pub record IsInOrder (store : Arrays) : Type 0 where
  pub one_length : length store.array_one ≡ length store.array_zero
  pub read_length : length store.read_marks ≡ length store.array_zero
  pub write_length : length store.write_marks ≡ length store.array_zero
  pub taken_most : store.taken ≤ length store.array_zero
  pub zero_words : All IsWord store.array_zero
  pub one_words : All IsWord store.array_one

-- both arrays are the words, reads go to array zero and writes to array one, and no
-- cell is left to take
abbrev pub built_arrays : List ℕ → Arrays
built_arrays words = record {
  array_zero = words;
  array_one = words;
  read_marks = replicate (length words) false;
  write_marks = replicate (length words) true;
  taken = length words;
}

-- a write changes the entry that the write mark names, and from then on reads go there
abbrev pub written_arrays : Arrays → ℕ → ℕ → Arrays
written_arrays store i v =
    let mark = slice_index_or store.write_marks i false in
    record store {
      array_zero = if mark then store.array_zero else slice_set store.array_zero i v;
      array_one = if mark then slice_set store.array_one i v else store.array_one;
      read_marks = slice_set store.read_marks i mark;
    }

-- a mark sends each cell's writes to the entry that its reads don't use, and no cell is taken
abbrev pub marked_arrays : Arrays → Arrays
marked_arrays store = record store { write_marks = map not store.read_marks; taken = 0 }

-- a take of a cell moves to the next cell
abbrev pub taken_arrays : Arrays → Arrays
taken_arrays store = record store { taken = store.taken + 1 }
