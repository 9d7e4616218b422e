-- The knowledge of a seat after each step, and the facts that each step gives.
use Rattle.std.specs.Prelude.{◌≡◌, ℕ, ◌+◌, ◌<◌, ◌==◌, [], ◌∷◌, ◌++◌, length, slice_set, Bool, true}
use Rattle.std.specs.Prelude.{false, not}
use Rattle.world_actions.specs.World.{IsWord}
use Rattle.capture_core.specs.declared.taker.Taken.{Taken}
use Rattle.capture_core.specs.declared.taker.Taken.TheVariants.{Word, Same}
use Rattle.atomic_table.specs.Table.{Me, Step}
use Rattle.packed_marks.specs.Bits.{chunks}
use Rattle.shared_capture.specs.declared.method.Kind.{Kind}
use Rattle.shared_capture.specs.declared.view.FrontView.{FrontView}
use Rattle.shared_capture.specs.declared.view.BackView.{BackView}
use Rattle.shared_capture.specs.declared.view.View.{View}
use Rattle.shared_capture.specs.declared.view.View.TheVariants.{Front, Back, Pair}
use Rattle.shared_capture.specs.Methods.{cleared, touched_of}
use Rattle.shared_capture.specs.Rounds.{round, padded}
use Rattle.shared_capture.specs.Table.{cell_place, mark_place}
use Rattle.shared_capture.specs.Start.{front_start, back_start}

-- ## The front

-- the front after it loaded the phase
abbrev pub after_load : ℕ → FrontView → FrontView
after_load found f =
    record f { closed = found == 0; loads = f.loads ++ found ∷ []; steps = f.steps + 1 }

-- the front after it stored a word of cell i in one of the arrays
abbrev pub after_write : ℕ → Bool → ℕ → FrontView → FrontView
after_write i second word f = record f {
  live = slice_set f.live i word;
  sides = slice_set f.sides i second;
  steps = f.steps + 1;
}

-- the front after it stored mark word k
abbrev pub after_mark : ℕ → ℕ → FrontView → FrontView
after_mark k word f = record f { marks = slice_set f.marks k word; steps = f.steps + 1 }

-- the front after it stored a tick in the phase, which opens a round
abbrev pub after_open : Kind → ℕ → FrontView → FrontView
after_open kind tick f = record f {
  rounds = f.rounds ++ round tick f.live (touched_of kind (length f.live) f.marks) ∷ [];
  marks = cleared kind f.marks;
  last = f.marks;
  current = not f.current;
  closed = false;
  steps = f.steps + 1;
}

-- ## The back

-- the back after it loaded the phase; the flag says if the phase was 0
abbrev pub looked_as : Bool → ℕ → BackView → BackView
looked_as true found b = record b { loads = b.loads ++ found ∷ []; steps = b.steps + 1 }
looked_as false found b = record b {
  now = record { tick = found; taken = [] };
  working = true;
  marks = [];
  loads = b.loads ++ found ∷ [];
  steps = b.steps + 1;
}

-- the back after it loaded the phase
abbrev pub after_look : ℕ → BackView → BackView
after_look found b = looked_as (found == 0) found b

-- the back after it fetched the next mark word
abbrev pub after_fetch : ℕ → BackView → BackView
after_fetch found b = record b { marks = b.marks ++ found ∷ []; steps = b.steps + 1 }

-- the back after it loaded the word of cell i; the cells since the last taken one are unchanged
abbrev pub after_take : ℕ → ℕ → BackView → BackView
after_take i word b = record b {
  now = record { tick = b.now.tick; taken = padded i b.now.taken ++ Word word ∷ [] };
  steps = b.steps + 1;
}

-- the back after it took cell i: an unchanged cell needs no step
abbrev pub after_known : ℕ → Taken → BackView → BackView
after_known i (Word word) b = after_take i word b
after_known i Same b = b

-- the back after it stored 0 in the phase, which ends the round
abbrev pub after_finish : BackView → BackView
after_finish b = record b {
  done = b.done ++ record { tick = b.now.tick; taken = padded b.cells b.now.taken } ∷ [];
  now = record { tick = 0; taken = [] };
  working = false;
  marks = [];
  current = not b.current;
  steps = b.steps + 1;
}

-- ## The facts that each step gives

-- the parts of a seat: its view, and the slots that it holds, which are none
abbrev pub Sitting : Type 0
Sitting = Me (Unit {0}) View

-- the front of a view that has one
abbrev pub front_of : View → FrontView
front_of (Front f) = f
front_of (Pair f b) = f
front_of v = front_start [] []

-- the back of a view that has one
abbrev pub back_of : View → BackView
back_of (Back b) = b
back_of (Pair f b) = b
back_of v = back_start 0

-- the front loads the phase; it is 0 if the front knew that no round is open
abbrev pub phase_loaded : Step (Unit {0}) → Sitting → ℕ → Sitting → Type 0
phase_loaded st m found m' = (m' ≡ (Front (after_load found (front_of m.0)), m.1))
    × ((front_of m.0).closed ≡ true → found ≡ 0)

-- the front stores the word of a cell
abbrev pub value_stored : Step (Unit {0}) → Sitting → ℕ → Sitting → Type 0
value_stored st m word m' = (i : ℕ) (second : Bool) → let f = front_of m.0 in
    st.word ≡ cell_place (length f.live) second i → i < length f.live
    → m' ≡ (Front (after_write i second word f), m.1)

-- the front stores a mark word
abbrev pub mark_stored : Step (Unit {0}) → Sitting → ℕ → Sitting → Type 0
mark_stored st m word m' = (k : ℕ) (second : Bool) → let f = front_of m.0 in
    st.word ≡ mark_place (length f.live) second k → k < chunks (length f.live)
    → m' ≡ (Front (after_mark k word f), m.1)

-- the front opens a round
abbrev pub phase_stored : Kind → Step (Unit {0}) → Sitting → ℕ → Sitting → Type 0
phase_stored kind st m tick m' = m' ≡ (Front (after_open kind tick (front_of m.0)), m.1)

-- the back loads the phase
abbrev pub looked : Step (Unit {0}) → Sitting → ℕ → Sitting → Type 0
looked st m found m' = m' ≡ (Back (after_look found (back_of m.0)), m.1)

-- the back fetches a mark word
abbrev pub mark_fetched : Step (Unit {0}) → Sitting → ℕ → Sitting → Type 0
mark_fetched st m found m' = m' ≡ (Back (after_fetch found (back_of m.0)), m.1)

-- the back loads the word of a cell
abbrev pub value_loaded : Step (Unit {0}) → Sitting → ℕ → Sitting → Type 0
value_loaded st m found m' = ((i : ℕ) (second : Bool) → let b = back_of m.0 in
    st.word ≡ cell_place b.cells second i → i < b.cells → m' ≡ (Back (after_take i found b), m.1))
    × IsWord found

-- the back ends the round
abbrev pub finished : Step (Unit {0}) → Sitting → ℕ → Sitting → Type 0
finished st m word m' = m' ≡ (Back (after_finish (back_of m.0)), m.1)
