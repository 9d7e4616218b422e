-- The rounds that were marked, and the cells that were taken of them.
use Rattle.std.specs.Prelude.{Some, ◌≡◌, ◌-◌, ℕ, List, [], ◌∷◌, ◌++◌, length, replicate}
use Rattle.std.specs.Prelude.{slice_index, slice_index_or, slice_get, Bool, true, false}
use Rattle.capture_core.specs.declared.taker.Taken.{Taken}
use Rattle.capture_core.specs.declared.taker.Taken.TheVariants.{Word, Same}
use Rattle.shared_capture.specs.declared.view.Round.{Round}
use Rattle.shared_capture.specs.declared.view.Snapshot.{Snapshot}

-- flag i of a list of flags
abbrev pub flag_at : List Bool → ℕ → Bool
flag_at flags i = slice_index_or flags i false

-- the round of a tick, with its words and its touched cells
abbrev pub round : ℕ → List ℕ → List Bool → Round
round tick words touched = record { tick = tick; words = words; touched = touched }

-- a cell as its word if it was touched, else as unchanged
abbrev pub shown_as : Bool → ℕ → Taken
shown_as true word = Word word
shown_as false word = Same

-- the take of cell i of a round
abbrev pub shown : Round → ℕ → Taken
shown r i = shown_as (flag_at r.touched i) (slice_index r.words i)

-- a snapshot has the tick of a round, and each of its cells was taken as the round has it
abbrev pub IsTakenOf : Round → Snapshot → Type 0
IsTakenOf r s =
    (s.tick ≡ r.tick) × ((i : ℕ) (t : Taken) → slice_get s.taken i ≡ Some t → t ≡ shown r i)

-- round by round, the taken cells are those that were marked
abbrev pub Agree : List Round → List Snapshot → Type 0
Agree rounds snapshots = (k : ℕ) (s : Snapshot) → slice_get snapshots k ≡ Some s
    → (r : Round) × (slice_get rounds k ≡ Some r) × IsTakenOf r s

-- the snapshots that are done, and the one in work if there is one
abbrev pub snapshots_as : Bool → List Snapshot → Snapshot → List Snapshot
snapshots_as true done now = done ++ now ∷ []
snapshots_as false done now = done

-- the taken cells, followed by unchanged ones up to cell i
abbrev pub padded : ℕ → List Taken → List Taken
padded i taken = taken ++ replicate (i - length taken) Same
