-- A new table, and what its seats know.
use Rattle.std.specs.Prelude.{ℕ, List, [], ◌∷◌, ◌++◌, length, replicate, false}
use Rattle.packed_marks.specs.Bits.{chunks}
use Rattle.shared_capture.specs.declared.view.FrontView.{FrontView}
use Rattle.shared_capture.specs.declared.view.BackView.{BackView}
use Rattle.shared_capture.specs.declared.view.View.{View}
use Rattle.shared_capture.specs.declared.view.View.TheVariants.{Pair}

-- the words of a new table: phase 0, the words in both arrays, the marks in the first row, and
-- none in the second
abbrev pub opening_words : List ℕ → List ℕ → List ℕ
opening_words words marks = 0 ∷ (words ++ (words ++ (marks ++ replicate (chunks (length words)) 0)))

-- the knowledge of the front of a new table: no round, and each live word in the first array
abbrev pub front_start : List ℕ → List ℕ → FrontView
front_start words marks = record {
  rounds = [];
  live = words;
  sides = replicate (length words) false;
  marks = marks;
  last = [];
  current = false;
  closed = false;
  loads = [];
  steps = 0;
}

-- the knowledge of the back of a new table of n cells: no round
abbrev pub back_start : ℕ → BackView
back_start n = record {
  cells = n;
  done = [];
  now = record { tick = 0; taken = [] };
  working = false;
  marks = [];
  current = false;
  loads = [];
  steps = 0;
}

-- the knowledge of both together
abbrev pub opening_pair : List ℕ → List ℕ → View
opening_pair words marks = Pair (front_start words marks) (back_start (length words))
