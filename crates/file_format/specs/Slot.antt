-- Two files of a kind.
use Rattle.std.specs.Prelude.{List, ℕ}
use Rattle.file_format.specs.declared.slot.Slot.{Slot}
use Rattle.file_format.specs.declared.slot.Slot.TheVariants.{A, B}

-- the other slot
abbrev pub other_slot : Slot → Slot
other_slot A = B
other_slot B = A

-- the value of this slot, from the values of the first and the second
abbrev pub of_slot : {X : Type 0} → Slot → X → X → X
of_slot A first second = first
of_slot B first second = second

-- the bytes that may be left in this slot, from those that may be left in the first
-- and in the second
abbrev pub in_slot : Slot → (List ℕ → Type 0) → (List ℕ → Type 0) → List ℕ → Type 0
in_slot A first second bytes = first bytes
in_slot B first second bytes = second bytes

-- the bytes that may be left in the other slot
abbrev pub beside_slot : Slot → (List ℕ → Type 0) → (List ℕ → Type 0) → List ℕ → Type 0
beside_slot A first second bytes = second bytes
beside_slot B first second bytes = first bytes
