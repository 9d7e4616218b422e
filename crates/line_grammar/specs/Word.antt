-- Inside: for the proofs of this crate's private functions.
-- The byte that separates words.
use Rattle.std.specs.Prelude.{◌≢◌, ℕ, List, All}

-- no byte is a space
abbrev pub HasNoSpace : List ℕ → Type 0
HasNoSpace bytes = All (λ byte. byte ≢ 32) bytes
