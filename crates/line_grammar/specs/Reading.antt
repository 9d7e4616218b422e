use Rattle.std.specs.Prelude.{◌≡◌, ◌≢◌, ℕ, List, Option, Some, None}

-- the reading of a text: the value within bounds that has this spelling, or nothing
-- if there is none
abbrev pub IsReading : {A : Type 0} → (A → List ℕ) → (A → Type 0) → List ℕ → Option A → Type 0
IsReading spelling IsInBounds text (Some a) = IsInBounds a × (text ≡ spelling a)
IsReading {A} spelling IsInBounds text None = (a : A) → IsInBounds a → text ≢ spelling a
