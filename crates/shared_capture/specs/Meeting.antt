-- Inside: for the proofs of this crate's private functions.
-- The two seats meet: they are joined to one seat, which loads the phase, and then part again.
use Rattle.std.specs.Prelude.{Some, ◌≡◌, ℕ, ◌+◌, ◌==◌, length, slice_index, slice_get, Bool, true}
use Rattle.std.specs.Prelude.{false}
use Rattle.atomic_table.specs.Table.{Step}
use Rattle.shared_capture.specs.declared.method.Kind.{Kind}
use Rattle.shared_capture.specs.declared.view.Round.{Round}
use Rattle.shared_capture.specs.declared.view.FrontView.{FrontView}
use Rattle.shared_capture.specs.declared.view.BackView.{BackView}
use Rattle.shared_capture.specs.declared.view.View.{View}
use Rattle.shared_capture.specs.declared.view.View.TheVariants.{Front, Back, Pair}
use Rattle.shared_capture.specs.Methods.{touched_of}
use Rattle.shared_capture.specs.Rounds.{Agree, snapshots_as}
use Rattle.shared_capture.specs.Steps.{Sitting, front_of, back_of, after_look}

-- the front's half of a pair of views
abbrev pub front_part : View → View
front_part v = Front (front_of v)

-- the back's half of a pair of views
abbrev pub back_part : View → View
back_part v = Back (back_of v)

-- the pair of a front's and a back's view
abbrev pub paired : View → View → View
paired v w = Pair (front_of v) (back_of w)

-- the front after the meeting: if the phase is 0, it knows that no round is open
abbrev pub front_met : ℕ → FrontView → FrontView
front_met found f = record f { closed = found == 0 }

-- the back after the meeting; the flag says if it had a round in work
abbrev pub met_as : Bool → ℕ → BackView → BackView
met_as true found b = b
met_as false found b = after_look found b

-- the back after the meeting: if it had no round in work, it has looked
abbrev pub after_meet : ℕ → BackView → BackView
after_meet found b = met_as b.working found b

-- if the phase is 0, no round is open; otherwise the front's last round is in work
abbrev pub MetAs : Bool → ℕ → FrontView → BackView → Type 0
MetAs true found f b = (length f.rounds ≡ length b.done) × (b.working ≡ false)
MetAs false found f b =
    (length f.rounds ≡ length b.done + 1) × (b.working ≡ true) × (b.now.tick ≡ found)

-- the facts after a meeting: the rounds agree, one is open or none is, and the fetched
-- marks are the round's
pub record Met (kind : Kind) (found : ℕ) (f : FrontView) (b : BackView) : Type 0 where
  pub agrees : Agree f.rounds (snapshots_as b.working b.done b.now)
  pub level : MetAs (found == 0) found f b
  pub fetched : (k m : ℕ) → slice_get b.marks k ≡ Some m → m ≡ slice_index f.last k
  pub touched : (r : Round) → b.working ≡ true → slice_get f.rounds (length b.done) ≡ Some r
      → r.touched ≡ touched_of kind b.cells f.last

-- both load the phase
abbrev pub met : Kind → Step (Unit {0}) → Sitting → ℕ → Sitting → Type 0
met kind st m found m' = let f = front_of m.0 in let b = after_meet found (back_of m.0) in
    (m' ≡ (Pair (front_met found f) b, m.1)) × Met kind found f b
