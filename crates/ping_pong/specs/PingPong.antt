-- The live words, the two arrays of entries, and the effect of each call on them.
use Rattle.std.specs.Prelude.{◌≡◌, ◌≤◌, ◌+◌, ℕ, Bool, true, false, not, List, [], ◌∷◌, Option}
use Rattle.std.specs.Prelude.{length, take, drop, replicate, All, slice_set, if◌then◌else◌}
use Rattle.std.specs.Bool.{then_some}
use Rattle.world_actions.specs.World.{IsWord}
use Rattle.capture_core.specs.Content.{Content}

-- the words and the dirty marks of an array
pub record Entries : Type 0 where
  pub words : List ℕ
  pub dirty : List Bool

-- the live words, both arrays, and the number of taken cells of the round
pub record Arrays : Type 0 where
  pub live : List ℕ
  pub current : Entries
  pub previous : Entries
  pub odd_is_current : Bool
  pub taken : ℕ

-- the words of array odd
abbrev pub odd_words : Arrays → List ℕ
odd_words store = if store.odd_is_current then store.current.words else store.previous.words

-- the words of array even
abbrev pub even_words : Arrays → List ℕ
even_words store = if store.odd_is_current then store.previous.words else store.current.words

-- for each entry its word if it is dirty, else nothing
abbrev pub dirty_words : List Bool → List ℕ → List (Option ℕ)
dirty_words [] words = []
dirty_words (dirty ∷ marks) [] = []
dirty_words (dirty ∷ marks) (word ∷ words) = then_some dirty word ∷ dirty_words marks words

-- the entries of the previous array, which takes hand out
abbrev pub previous_entries : Arrays → List (Option ℕ)
previous_entries store = dirty_words store.previous.dirty store.previous.words

-- the content of a store: a cell is touched if its entry in the current array is dirty
abbrev pub content_of : Arrays → Content
content_of store = record {
  live = store.live;
  touched = store.current.dirty;
  left = drop store.taken (previous_entries store);
}

-- the entries of so many cells
abbrev pub AreEntries : ℕ → Entries → Type 0
AreEntries cells entries = (length entries.words ≡ cells) × (length entries.dirty ≡ cells)
    × All IsWord entries.words

-- the facts that hold for every store; a dirty entry of the current array has the live word, and a
-- taken entry is clean
pub record IsInOrder (store : Arrays) : Type 0 where
  pub current_fits : AreEntries (length store.live) store.current
  pub previous_fits : AreEntries (length store.live) store.previous
  pub taken_most : store.taken ≤ length store.live
  pub live_words : All IsWord store.live
  pub as_live : dirty_words store.current.dirty store.current.words
      ≡ dirty_words store.current.dirty store.live
  pub clean : take store.taken store.previous.dirty ≡ replicate store.taken false

-- All three arrays are the words. Odd is current, with every entry dirty. Even has no dirty entry.
-- No cell is left to take.
abbrev pub built_arrays : List ℕ → Arrays
built_arrays words = record {
  live = words;
  current = record { words = words; dirty = replicate (length words) true };
  previous = record { words = words; dirty = replicate (length words) false };
  odd_is_current = true;
  taken = length words;
}

-- a write changes the live word and the entry of the current array, and makes that entry dirty
abbrev pub written_arrays : Arrays → ℕ → ℕ → Arrays
written_arrays store i v = record store {
  live = slice_set store.live i v;
  current = record {
    words = slice_set store.current.words i v;
    dirty = slice_set store.current.dirty i true;
  };
}

-- a mark swaps current and previous, and no cell is taken
abbrev pub swapped_arrays : Arrays → Arrays
swapped_arrays store = record store {
  current = store.previous;
  previous = store.current;
  odd_is_current = not store.odd_is_current;
  taken = 0;
}

-- a take of a cell cleans its entry, and moves to the next cell
abbrev pub taken_arrays : Arrays → Arrays
taken_arrays store = record store {
  previous = record store.previous { dirty = slice_set store.previous.dirty store.taken false };
  taken = store.taken + 1;
}
