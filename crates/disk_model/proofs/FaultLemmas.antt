-- The counts of faults of four files, after a call that failed.
use Rattle.std.proofs.Common.{◌≡◌, ℕ, ◌+◌, [], ◌∷◌, min, lit<}
use Rattle.disk_model.specs.Disk.{last_count}
use Rattle.disk_model.specs.FourFiles.{OneGrew}

-- the count of the file that failed grew, and the counts before it stay
pub second_grew : (a b c d a' b' : ℕ) → a' ≡ a → b' ≡ min (b + 1) last_count → OneGrew (a ∷ b ∷ c ∷ d ∷ []) (a' ∷ b' ∷ c ∷ d ∷ [])
second_grew a b c d a' b' first grew = record { place = 1; inside = lit< tt; grew = cc }

pub third_grew : (a b c d a' b' c' : ℕ) → a' ≡ a → b' ≡ b → c' ≡ min (c + 1) last_count → OneGrew (a ∷ b ∷ c ∷ d ∷ []) (a' ∷ b' ∷ c' ∷ d ∷ [])
third_grew a b c d a' b' c' first second grew = record { place = 2; inside = lit< tt; grew = cc }

pub fourth_grew : (a b c d a' b' c' d' : ℕ) → a' ≡ a → b' ≡ b → c' ≡ c → d' ≡ min (d + 1) last_count → OneGrew (a ∷ b ∷ c ∷ d ∷ []) (a' ∷ b' ∷ c' ∷ d' ∷ [])
fourth_grew a b c d a' b' c' d' first second third grew = record { place = 3; inside = lit< tt; grew = cc }
