-- The effect of an action on a list of words, or the reason why it is refused.
use Rattle.std.specs.Prelude.{◌≡◌, ℕ, List, [], ◌∷◌, length, Bool, Option, Some, None, Result, Ok}
use Rattle.std.specs.Prelude.{Err, ℤ, pos, ◌+ℤ◌, neg_ℤ, ◌+◌, ◌-◌, min, ◌||◌, not, int_lt, nat_lt}
use Rattle.std.specs.Prelude.{nat_eq, unsigned_abs, slice_index, slice_set, if◌then◌else◌}
use Rattle.world_actions.specs.declared.action.Action.{Action}
use Rattle.world_actions.specs.declared.action.Action.TheVariants.{Set, Add, Transfer, Swap, Cap}
use Rattle.world_actions.specs.declared.action.Change.{Change}
use Rattle.world_actions.specs.declared.refusal.Refusal.{Refusal}
use Rattle.world_actions.specs.declared.refusal.Refusal.TheVariants.{BadCell, BadValue, OutOfRange}
use Rattle.world_actions.specs.declared.refusal.Refusal.TheVariants.{SameCell}
use Rattle.world_actions.specs.declared.world.TheConstants.{LIMIT}
use Rattle.world_actions.specs.Action.{first_cell, second_cell}

-- no cell of the world has this number
abbrev pub is_outside : List ℕ → ℕ → Bool
is_outside world cell = not (nat_lt cell (length world))

-- a signed number isn't between these two
abbrev pub is_not_between : ℤ → ℤ → ℤ → Bool
is_not_between low high z = int_lt z low || int_lt high z

-- the reason why an action is refused, if it is refused; the first line that holds decides
abbrev pub refusal_of : List ℕ → Action → Option Refusal
refusal_of world (Set cell value) =
    if is_outside world cell then Some BadCell else
    if nat_lt LIMIT value then Some BadValue else
    None
refusal_of world (Add cell by) =
    if is_outside world cell then Some BadCell else
    if is_not_between (neg_ℤ (pos LIMIT)) (pos LIMIT) by then Some BadValue else
    if is_not_between (pos 0) (pos LIMIT) (pos (slice_index world cell) +ℤ by)
    then Some OutOfRange else
    None
refusal_of world (Transfer from to amount) =
    if is_outside world from then Some BadCell else
    if is_outside world to then Some BadCell else
    if nat_lt LIMIT amount then Some BadValue else
    if nat_eq from to then Some SameCell else
    if nat_lt (slice_index world from) amount then Some OutOfRange else
    if nat_lt LIMIT (slice_index world to + amount) then Some OutOfRange else
    None
refusal_of world (Swap a b) =
    if is_outside world a then Some BadCell else
    if is_outside world b then Some BadCell else
    if nat_eq a b then Some SameCell else
    None
refusal_of world (Cap cell value) =
    if is_outside world cell then Some BadCell else
    if nat_lt LIMIT value then Some BadValue else
    None

-- a word that is put into a cell
pub record Write : Type 0 where
  pub cell : ℕ
  pub word : ℕ

-- the writes of an accepted action, in order
abbrev pub writes_of : List ℕ → Action → List Write
writes_of world (Set cell value) =
    record { cell = cell; word = value } ∷ []
writes_of world (Add cell by) =
    record { cell = cell; word = unsigned_abs (pos (slice_index world cell) +ℤ by) } ∷ []
writes_of world (Transfer from to amount) =
    record { cell = from; word = slice_index world from - amount }
    ∷ record { cell = to; word = slice_index world to + amount }
    ∷ []
writes_of world (Swap a b) =
    record { cell = a; word = slice_index world b }
    ∷ record { cell = b; word = slice_index world a }
    ∷ []
writes_of world (Cap cell value) =
    record { cell = cell; word = min (slice_index world cell) value } ∷ []

-- the world after these writes
abbrev pub written : List ℕ → List Write → List ℕ
written world [] = world
written world (write ∷ writes) = written (slice_set world write.cell write.word) writes

-- the outcome, unless there is a refusal
abbrev pub unless : {A : Type 0} → Option Refusal → A → Result A Refusal
unless None outcome = Ok outcome
unless (Some refusal) outcome = Err refusal

-- the effect of an action on a world: the world after its writes, or its refusal
abbrev pub effect : List ℕ → Action → Result (List ℕ) Refusal
effect world action = unless (refusal_of world action) (written world (writes_of world action))

-- the world has this many cells, and these words at the cells that the action names
pub record Shows (world : List ℕ) (action : Action) (len first second : ℕ) : Type 0 where
  pub cells : length world ≡ len
  pub first_word : slice_index world (first_cell action) ≡ first
  pub second_word : slice_index world (second_cell action) ≡ second

-- the writes of a change: the first cell's, then the second cell's if the change has a second word
abbrev pub change_writes : Action → Change → List Write
change_writes action change =
    record { cell = first_cell action; word = change.first } ∷ second_write change.second
  where
    second_write : Option ℕ → List Write
    second_write None = []
    second_write (Some word) = record { cell = second_cell action; word = word } ∷ []
