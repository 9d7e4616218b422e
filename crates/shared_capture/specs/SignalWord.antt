-- The word of a signal: its rule, and what its two seats know.
use Rattle.std.specs.Prelude.{Some, ◌≡◌, ◌⊎◌, ℕ, List, [], ◌∷◌, ◌++◌, slice_get}
use mathlib.Core.Option as maybe
use lib.ListN.{get_elem?}
use Rattle.atomic_table.specs.Table.{State, Me, Step}
use Rattle.atomic_table.specs.Seated.{TableId}
use Rattle.atomic_table.specs.declared.shared.Seat.{Seat}
use Rattle.shared_capture.specs.declared.signal.SignalView.{SignalView}
use Rattle.shared_capture.specs.declared.signal.SignalView.TheVariants.{Spent, Out, In, Both}

-- A seat as contracts see it: its pair, and the numbers that it stored or loaded. Each store of the
-- one and each load of the other adds a number.
pub record SignalState : Type 0 where
  pub pair : TableId
  pub numbers : List ℕ

-- one number more was stored, or loaded
abbrev pub with_number : SignalState → ℕ → SignalState
with_number seat number = record seat { numbers = seat.numbers ++ number ∷ [] }

-- the last of these, or 0
abbrev pub last_of : List ℕ → ℕ
last_of [] = 0
last_of (tick ∷ []) = tick
last_of (tick ∷ next ∷ ticks) = last_of (next ∷ ticks)

-- each of these was stored, or is 0
abbrev pub AreStored : (stored loaded : List ℕ) → Type 0
AreStored stored loaded =
    (i tick : ℕ) → slice_get loaded i ≡ Some tick
    → (tick ≡ 0) ⊎ ((j : ℕ) × (slice_get stored j ≡ Some tick))

-- a seat with this view is the one that stores, the one that loads, both, or has no use any more
abbrev pub Knows : List ℕ → ℕ → List ℕ → ℕ → ℕ → SignalView → Type 0
Knows stored p loaded q seat Spent = Unit {0}
Knows stored p loaded q seat (Out ticks) = (seat ≡ p) × (ticks ≡ stored)
Knows stored p loaded q seat (In ticks) = (seat ≡ q) × (ticks ≡ loaded)
Knows stored p loaded q seat (Both first second) =
    (seat ≡ p) × (seat ≡ q) × (first ≡ stored) × (second ≡ loaded)

-- The rule: the word is the last tick that was stored, or 0. Each loaded tick was stored, or is 0.
-- No other seat knows anything.
pub record Kept (s : State (Unit {0}) SignalView) : Type 0 where
  pub stored : List ℕ
  pub out_at : ℕ
  pub loaded : List ℕ
  pub in_at : ℕ
  pub word : s.words ≡ last_of stored ∷ []
  pub are_stored : AreStored stored loaded
  pub each_seat : (j : ℕ) (v : SignalView) → get_elem? s.views j ≡ maybe.some v
      → Knows stored out_at loaded in_at j v

-- ---- the facts after each step

abbrev pub Sitting : Type 0
Sitting = Me (Unit {0}) SignalView

abbrev pub stored_of : SignalView → List ℕ
stored_of (Out ticks) = ticks
stored_of (Both stored loaded) = stored
stored_of view = []

abbrev pub loaded_of : SignalView → List ℕ
loaded_of (In ticks) = ticks
loaded_of (Both stored loaded) = loaded
loaded_of view = []

-- a tick is stored
abbrev pub stored_next : Step (Unit {0}) → Sitting → ℕ → Sitting → Type 0
stored_next st m tick m' = m' ≡ (Out (stored_of m.0 ++ tick ∷ []), m.1)

-- the word is loaded
abbrev pub loaded_next : Step (Unit {0}) → Sitting → ℕ → Sitting → Type 0
loaded_next st m found m' = m' ≡ (In (loaded_of m.0 ++ found ∷ []), m.1)

-- Both meet. Only a seat that knows both can make this load, so the one that stores makes none.
abbrev pub met : Step (Unit {0}) → Sitting → ℕ → Sitting → Type 0
met st m found m' =
    (m' ≡ m) × (m.0 ≡ Both (stored_of m.0) (loaded_of m.0))
    × AreStored (stored_of m.0) (loaded_of m.0)

abbrev pub out_part : SignalView → SignalView
out_part view = Out (stored_of view)

abbrev pub in_part : SignalView → SignalView
in_part view = In (loaded_of view)

abbrev pub paired : SignalView → SignalView → SignalView
paired first second = Both (stored_of first) (loaded_of second)

-- ---- the seats

abbrev pub SignalSeat : Type 0
SignalSeat = Seat (Unit {0}) SignalView

-- the seat is at this word and stored these ticks (`IsOut`), loaded them (`IsIn`), or knows
-- of both (`IsBoth`)
abbrev pub IsOut : TableId → List ℕ → SignalSeat → Type 0
IsOut t stored seat = (seat.table_id ≡ t) × (seat.me ≡ (Out stored, [])) × (t.words ≡ 1)

abbrev pub IsIn : TableId → List ℕ → SignalSeat → Type 0
IsIn t loaded seat = (seat.table_id ≡ t) × (seat.me ≡ (In loaded, [])) × (t.words ≡ 1)

abbrev pub IsBoth : TableId → (stored loaded : List ℕ) → SignalSeat → Type 0
IsBoth t stored loaded seat =
    (seat.table_id ≡ t) × (seat.me ≡ (Both stored loaded, [])) × (t.words ≡ 1)
