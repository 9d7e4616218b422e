-- Inside: for the proofs of this crate's private functions. The rule of the table: the facts on its
-- words and on the knowledge of the two seats, between any two steps.
use Rattle.std.specs.Prelude.{Some, ◌≡◌, ℕ, ◌+◌, ◌<◌, ◌≤◌, List, [], length, slice_index, slice_get}
use Rattle.std.specs.Prelude.{Bool, true, false, not}
use mathlib.Core.Option as maybe
use lib.ListN.{get_elem?}
use Rattle.world_actions.specs.World.{IsWord}
use Rattle.atomic_table.specs.Table.{State}
use Rattle.packed_marks.specs.Bits.{chunks, marked}
use Rattle.shared_capture.specs.declared.method.Kind.{Kind}
use Rattle.shared_capture.specs.declared.method.Kind.TheVariants.{PingPong}
use Rattle.shared_capture.specs.declared.view.Round.{Round}
use Rattle.shared_capture.specs.declared.view.FrontView.{FrontView}
use Rattle.shared_capture.specs.declared.view.BackView.{BackView}
use Rattle.shared_capture.specs.declared.view.View.{View}
use Rattle.shared_capture.specs.declared.view.View.TheVariants.{Spent, Front, Back, Pair}
use Rattle.shared_capture.specs.Methods.{write_side, take_side, is_word, row, touched_of}
use Rattle.shared_capture.specs.Rounds.{flag_at, IsTakenOf, Agree}
use Rattle.shared_capture.specs.Table.{cell_place, mark_place, table_words}
use Rattle.shared_capture.specs.Seats.{FitsCells}

-- the table holds what is left of the open round, and no write reaches those places
pub record Left (kind : Kind) (n : ℕ) (words : List ℕ) (f : FrontView) (b : BackView)
    (r : Round) : Type 0 where
  pub touched : r.touched ≡ touched_of kind n f.last
  pub kept : (i : ℕ) → i < n → is_word kind (marked f.last i) ≡ true
      → slice_index words (cell_place n (take_side kind b.current (marked f.last i)) i)
      ≡ slice_index r.words i
  pub apart : (i : ℕ) → i < n
      → take_side kind b.current (marked f.last i)
      ≡ not (write_side kind f.current (marked f.marks i))
  pub turned : b.current ≡ not f.current
  pub left : (k : ℕ) → k < chunks n → length b.marks ≤ k
      → slice_index words (mark_place n (row kind b.current) k) ≡ slice_index f.last k
  pub swapped : kind ≡ PingPong → (k : ℕ) → k < chunks n → k < length b.marks
      → slice_index words (mark_place n b.current k) ≡ 0

-- a round is open: it is the front's last round, the back has not done it, and the
-- phase is its tick
pub record IsOpen (kind : Kind) (n : ℕ) (words : List ℕ) (f : FrontView)
    (b : BackView) : Type 0 where
  pub round : Round
  pub at : slice_get f.rounds (length b.done) ≡ Some round
  pub one_more : length f.rounds ≡ length b.done + 1
  pub tick : round.tick ≡ slice_index words 0
  pub left : Left kind n words f b round

-- no round is open: the back has done all rounds, and the row for the next marks is clear
pub record IsEnded (kind : Kind) (n : ℕ) (words : List ℕ) (f : FrontView)
    (b : BackView) : Type 0 where
  pub level : length f.rounds ≡ length b.done
  pub idle : b.working ≡ false
  pub same : b.current ≡ f.current
  pub clean : kind ≡ PingPong → (k : ℕ) → k < chunks n
      → slice_index words (mark_place n (not f.current) k) ≡ 0

-- the back knows the open round, and took its cells as the round has them
pub record Looked (words : List ℕ) (f : FrontView) (b : BackView) : Type 0 where
  pub some : 0 < slice_index words 0
  pub tick : b.now.tick ≡ slice_index words 0
  pub taken : (r : Round) → slice_get f.rounds (length b.done) ≡ Some r → IsTakenOf r b.now

-- the table of n cells has the words that the front knows
pub record HasFront (kind : Kind) (n : ℕ) (words : List ℕ) (f : FrontView) : Type 0 where
  pub wide : length words ≡ table_words n
  pub fits : FitsCells n f
  pub small : (s : Bool) (i : ℕ) → i < n → IsWord (slice_index words (cell_place n s i))
  pub live : (i : ℕ) → i < n
      → slice_index words (cell_place n (flag_at f.sides i) i) ≡ slice_index f.live i
  pub marks : (k : ℕ) → k < chunks n
      → slice_index words (mark_place n (row kind f.current) k) ≡ slice_index f.marks k
  pub closed : f.closed ≡ true → slice_index words 0 ≡ 0

-- the words of the table of n cells agree with what front and back know
pub record Core (kind : Kind) (n : ℕ) (words : List ℕ) (f : FrontView) (b : BackView) : Type 0 where
  pub table : HasFront kind n words f
  pub cells : b.cells ≡ n
  pub agrees : Agree f.rounds b.done
  pub ended : slice_index words 0 ≡ 0 → IsEnded kind n words f b
  pub opened : 0 < slice_index words 0 → IsOpen kind n words f b
  pub looked : b.working ≡ true → Looked words f b
  pub fresh : b.working ≡ false → b.marks ≡ []
  pub fetched : (k m : ℕ) → slice_get b.marks k ≡ Some m → m ≡ slice_index f.last k

-- a seat with this view is the front's, the back's, that of both, or has no use any more
abbrev pub Knows : FrontView → ℕ → BackView → ℕ → ℕ → View → Type 0
Knows f p b q seat Spent = Unit {0}
Knows f p b q seat (Front g) = (seat ≡ p) × (g ≡ f)
Knows f p b q seat (Back c) = (seat ≡ q) × (c ≡ b)
Knows f p b q seat (Pair g c) = (seat ≡ p) × (seat ≡ q) × (g ≡ f) × (c ≡ b)

-- the rule: there is one front and one back, at some seats, and no seat knows anything else
pub record Kept (kind : Kind) (n : ℕ) (s : State (Unit {0}) View) : Type 0 where
  pub front : FrontView
  pub front_at : ℕ
  pub back : BackView
  pub back_at : ℕ
  pub core : Core kind n s.words front back
  pub each_seat : (j : ℕ) (v : View) → get_elem? s.views j ≡ maybe.some v
      → Knows front front_at back back_at j v
