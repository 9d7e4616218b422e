-- The accesses to a store of words: the cells that were read, and the words that were written.
use Rattle.std.specs.Prelude.{◌≡◌, ℕ, List, [], ◌∷◌}
use Rattle.world_actions.specs.Effect.{Write}

-- one access: a cell is read, or a word is put into one
pub data Access : Type 0 where
  Read : ℕ → Access
  Wrote : Write → Access

-- these accesses, one after another, lead from old to new
abbrev pub Accesses : {S : Type 0} → (S → Access → S → Type 0) → S → List Access → S → Type 0
Accesses accessed old [] new = new ≡ old
Accesses {S} accessed old (access ∷ rest) new =
    (mid : S) × accessed old access mid × Accesses accessed mid rest new

-- the writes among some accesses, in order
abbrev pub writes_among : List Access → List Write
writes_among [] = []
writes_among (Read cell ∷ rest) = writes_among rest
writes_among (Wrote write ∷ rest) = write ∷ writes_among rest

-- some accesses lead from old to new, and these are all their writes
pub record Performs {S : Type 0} (accessed : S → Access → S → Type 0) (old : S)
    (writes : List Write) (new : S) : Type 0 where
  pub accesses : List Access
  pub lead : Accesses accessed old accesses new
  pub all_writes : writes_among accesses ≡ writes
