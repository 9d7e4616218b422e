-- The premises of a seat's steps, and the data that its owner keeps beside it.
use Rattle.std.specs.Prelude.{Some, ◌≡◌, ◌≢◌, ℕ, ◌+◌, ◌<◌, ◌≤◌, ◌%◌, ◌/◌, List, [], length}
use Rattle.std.specs.Prelude.{slice_get, slice_index, Bool, true, false, not, All}
use Rattle.world_actions.specs.World.{IsWord}
use Rattle.atomic_table.specs.Seated.{TableId}
use Rattle.atomic_table.specs.declared.shared.Seat.{Seat}
use Rattle.packed_marks.specs.Bits.{chunks, marked}
use Rattle.packed_marks.specs.Marks.{IsPacked}
use Rattle.shared_capture.specs.declared.method.Kind.{Kind}
use Rattle.shared_capture.specs.declared.method.Kind.TheVariants.{Zigzag, PingPong}
use Rattle.shared_capture.specs.declared.view.FrontView.{FrontView}
use Rattle.shared_capture.specs.declared.view.BackView.{BackView}
use Rattle.shared_capture.specs.declared.view.View.{View}
use Rattle.shared_capture.specs.declared.view.View.TheVariants.{Front, Back, Pair}
use Rattle.shared_capture.specs.Methods.{take_side, is_word}
use Rattle.shared_capture.specs.Rounds.{flag_at}
use Rattle.shared_capture.specs.Table.{HasCells}
use Rattle.shared_capture.specs.Start.{front_start, back_start}
use Rattle.shared_capture.specs.Steps.{front_of, back_of}

-- a seat at a table of the crate
abbrev pub TableSeat : Type 0
TableSeat = Seat (Unit {0}) View

-- the seat is at this table, and knows what this front knows
abbrev pub IsFront : TableId → FrontView → TableSeat → Type 0
IsFront t f seat = (seat.table_id ≡ t) × (seat.me ≡ (Front f, []))

-- the seat is at this table, and knows what this back knows
abbrev pub IsBack : TableId → BackView → TableSeat → Type 0
IsBack t b seat = (seat.table_id ≡ t) × (seat.me ≡ (Back b, []))

-- the seat is at this table, and knows what both know
abbrev pub IsPair : TableId → FrontView → BackView → TableSeat → Type 0
IsPair t f b seat = (seat.table_id ≡ t) × (seat.me ≡ (Pair f b, []))

-- the front's lists are those of n cells
abbrev pub FitsCells : ℕ → FrontView → Type 0
FitsCells n f = (length f.live ≡ n) × (length f.sides ≡ n) × IsPacked n f.marks

-- only the mark words and the steps differ
abbrev pub SameRest : FrontView → FrontView → Type 0
SameRest f g = (g.rounds ≡ f.rounds) × (g.live ≡ f.live) × (g.sides ≡ f.sides) × (g.last ≡ f.last)
    × (g.current ≡ f.current) × (g.closed ≡ f.closed) × (g.loads ≡ f.loads)

-- the two seats of a new table of n cells, which was made from k words
pub record IsSeated (t : TableId) (k n : ℕ) (words marks : List ℕ)
    (front back : TableSeat) : Type 0 where
  pub cells : k ≡ n
  pub has : HasCells n t
  pub sits_front : IsFront t (front_start words marks) front
  pub sits_back : IsBack t (back_start n) back

-- a round may be marked: each cell that counts as touched has its live word in the array from which
-- it will be taken
abbrev pub IsReady : Kind → ℕ → FrontView → Type 0
IsReady kind n f = (i : ℕ) → i < n → is_word kind (marked f.marks i) ≡ true
    → flag_at f.sides i ≡ take_side kind f.current (marked f.marks i)

-- the cells from the last word taken up to cell i are known to be unchanged
pub record IsSame (kind : Kind) (i : ℕ) (b : BackView) : Type 0 where
  pub most : length b.now.taken ≤ i
  pub fetched : chunks i ≤ length b.marks
  pub same : (j : ℕ) → length b.now.taken ≤ j → j < i → is_word kind (marked b.marks j) ≡ false

-- the mark word of cell i was fetched, if it was not before
pub record IsFetched (i mark : ℕ) (b c : BackView) : Type 0 where
  pub now : c.now ≡ b.now
  pub same : (c.cells ≡ b.cells) × (c.done ≡ b.done) × (c.working ≡ b.working)
      × (c.current ≡ b.current)
      × (c.loads ≡ b.loads)
  pub steps : c.steps ≤ b.steps + 1
  pub fetched : length c.marks ≡ chunks (i + 1)
  pub mark_is : slice_get c.marks (i / 64) ≡ Some mark
  pub others : (j : ℕ) → j < i → marked c.marks j ≡ marked b.marks j

-- the list has each place at which the two lists differ, once
pub record ListsChanges (marks away places : List ℕ) : Type 0 where
  pub differ : (i : ℕ) → i < length places
      → let k = slice_index places i in (k < length marks)
      × (slice_index marks k ≢ slice_index away k)
  pub once : (i j : ℕ) → i < length places → j < length places
      → slice_index places i ≡ slice_index places j → i ≡ j
  pub all : (k : ℕ) → k < length marks → slice_index marks k ≢ slice_index away k
      → (i : ℕ) × (i < length places) × (slice_index places i ≡ k)

-- the fields of the front are what its seat knows
pub record IsFrontOf (kind : Kind) (t : TableId) (n : ℕ) (seat : TableSeat)
    (live marks away : List ℕ) (current : Bool) : Type 0 where
  pub sits : IsFront t (front_of seat.me.0) seat
  pub cells : HasCells n t
  pub fits : FitsCells n (front_of seat.me.0)
  pub live_is : (front_of seat.me.0).live ≡ live
  pub words : All IsWord live
  pub marks_are : (front_of seat.me.0).marks ≡ marks
  pub current_is : (front_of seat.me.0).current ≡ current
  pub ready : kind ≡ PingPong → IsReady kind n (front_of seat.me.0)
  pub away_packed : kind ≡ Zigzag → IsPacked n away
  pub away_are : kind ≡ Zigzag → (i : ℕ) → i < n
      → flag_at (front_of seat.me.0).sides i ≡ not (marked away i)

-- the fields of the back are what its seat knows; the mark word of the next cell is one of them
-- if it was fetched
pub record IsBackOf (kind : Kind) (t : TableId) (n : ℕ) (seat : TableSeat)
    (cells tick at mark : ℕ) (current : Bool) : Type 0 where
  pub sits : IsBack t (back_of seat.me.0) seat
  pub has : HasCells n t
  pub cells_are : ((back_of seat.me.0).cells ≡ n) × (cells ≡ n)
  pub current_is : (back_of seat.me.0).current ≡ current
  pub idle : tick ≡ 0 → ((back_of seat.me.0).working ≡ false) × (at ≡ 0)
  pub busy : 0 < tick → ((back_of seat.me.0).working ≡ true) × ((back_of seat.me.0).now.tick ≡ tick)
  pub within : at ≤ n
  pub known : IsSame kind at (back_of seat.me.0)
  pub fetched : length (back_of seat.me.0).marks ≡ chunks at
  pub mark_is : 0 < at % 64 → slice_get (back_of seat.me.0).marks (at / 64) ≡ Some mark
