-- The bytes of a line that are kept until it ends.
use Rattle.std.specs.Prelude.{◌≡◌, ◌≢◌, ℕ, ◌+◌, List, [], ◌∷◌, Option, take}
use Rattle.line_grammar.specs.declared.command.TheConstants.{LINE_BYTES}

-- the first bytes of a line, at most one more than a line with a meaning can have
abbrev pub kept_of : List ℕ → List ℕ
kept_of line = take (LINE_BYTES + 1) line

-- this is the meaning of each line of which these bytes are kept
abbrev pub KeptMeans : {A : Type 0} → (List ℕ → Option A → Type 0) → List ℕ → Option A → Type 0
KeptMeans Means kept meaning = (line : List ℕ) → kept_of line ≡ kept → Means line meaning

-- no byte is a newline
abbrev pub HasNoNewline : List ℕ → Type 0
HasNoNewline [] = Unit {0}
HasNoNewline (b ∷ bytes) = (b ≢ 10) × HasNoNewline bytes
