-- Sums of counts.
use Rattle.std.specs.Prelude.{ℕ, ◌+◌, ◌-◌, ◌^◌, min}

-- the sum of two counts, or 2^64 - 1 if it is greater
abbrev pub sum_of : ℕ → ℕ → ℕ
sum_of some more = min (some + more) (2 ^ 64 - 1)
