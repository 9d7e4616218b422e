-- The gates that a write that may be torn can leave.
use Rattle.std.proofs.Common.{◌≡◌, ◌⊎◌, inl, inr, ℕ, ◌<◌, List, [], ◌∷◌, length, sym, ◌∙◌, ap, get_or, arith}
use Rattle.std.proofs.lemmas.List.{get_or-take}
use Rattle.std.proofs.lemmas.Bool.{cases_eq}
use Rattle.file_format.specs.declared.gate.TheConstants.{OPEN_GATE}
use Rattle.file_format.specs.Gate.{HasShutGate}
use Rattle.disk_model.specs.Disk.{Torn, overwritten}

-- a write leaves the bytes before it
torn_before : (old new : List ℕ) (at n : ℕ) → Torn at n old new → (i d : ℕ) → i < at → get_or new i d ≡ get_or old i d
torn_before old new at n torn i d low = sym (get_or-take at new i d low) ∙ ap (λ (list : List ℕ). get_or list i d) torn.before ∙ get_or-take at old i d low

-- a write after the gate leaves it
pub torn_behind_gate : (old new : List ℕ) (at n : ℕ) → 0 < at → Torn at n old new → HasShutGate old → HasShutGate new
torn_behind_gate old new at n behind torn shut = (omega (arith, shut.0, torn.no_shorter), λ is_open. shut.1 (sym (torn_before old new at n torn 0 0 behind) ∙ is_open))

-- a write of the open gate over another one leaves a shut gate, or is whole
pub torn_opening : (old new : List ℕ) → 0 < length old → Torn 0 1 old new → HasShutGate new ⊎ (new ≡ overwritten old 0 (OPEN_GATE ∷ []))
torn_opening old [] long torn = absurd (omega (arith, torn.no_shorter))
torn_opening old (gate ∷ rest) long torn = elim (cases_eq gate OPEN_GATE) [
  | inl is_open ↦ inr (λ i. is_open i ∷ torn.after i)
  | inr shut ↦ inl (omega arith, shut)
]
