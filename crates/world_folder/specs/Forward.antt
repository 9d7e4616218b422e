-- A copy of a file that grows while it is read.
use Rattle.std.specs.Prelude.{◌≡◌, ◌≤◌, ℕ, suc, List, [], ◌∷◌, ◌++◌, length, drop}
use Rattle.action_log.specs.Segment.{Tick, IsOpenSegment}

-- These bytes are the file's from a place on, each as it was when it was read. No byte is read
-- before one in front of it. A last read finds none.
abbrev pub IsCopied : (file : (moment : ℕ) → List ℕ) → (place moment : ℕ) → List ℕ → Type 0
IsCopied file place moment [] = (end : ℕ) × (moment ≤ end) × (length (file end) ≤ place)
IsCopied file place moment (byte ∷ more) =
    (read : ℕ) × (moment ≤ read) × ((behind : List ℕ) × (drop place (file read) ≡ byte ∷ behind))
    × IsCopied file (suc place) read more

-- The file is an open segment at each moment, with these ticks. It keeps its base, its format and
-- its groups, and gets more groups after them.
pub record IsGrowing (file : (moment : ℕ) → List ℕ) (base : ℕ)
    (ticks : (moment : ℕ) → List Tick) : Type 0 where
  pub reads : (moment : ℕ) → IsOpenSegment (file moment) base (ticks moment)
  pub format : (moment : ℕ) → (reads moment).format ≡ (reads 0).format
  pub more : (earlier later : ℕ) → earlier ≤ later
      → (next : List (List Tick)) × ((reads later).groups ≡ (reads earlier).groups ++ next)
