-- Latencies up to a bound, and those above it.
use Rattle.std.proofs.Common.{arith, ◌≡◌, ℕ, ◌+◌, ◌≤◌, ◌<◌, true, false, List, length, take, drop, leb, leb-true}
use Rattle.std.specs.List.{All}
use Rattle.std.specs.List.Sorted.{IsPartitionPoint}
use Rattle.std.proofs.lemmas.Bool.{leb-false}
use Rattle.std.proofs.lemmas.List.{get_or-take, get_or-drop, length-take, length-drop}

-- no latency before the partition point is above the bound
pub none_above : (bound i : ℕ) (xs : List ℕ) → i ≤ length xs → IsPartitionPoint (λ x. leb x bound ≡ true) (λ x. leb x bound ≡ false) xs i
    → All (λ x. x ≤ bound) (take i xs)
none_above bound i xs within point = λ k d below.
    let early : k < i = omega (arith, length-take i xs) in
    rw (get_or-take i xs k d) (leb-true _ _ (point.0 k d (omega arith) early))

-- each latency from there on is above the bound
pub all_above : (bound i : ℕ) (xs : List ℕ) → i ≤ length xs → IsPartitionPoint (λ x. leb x bound ≡ true) (λ x. leb x bound ≡ false) xs i
    → All (λ x. bound < x) (drop i xs)
all_above bound i xs within point = λ k d below.
    rw (get_or-drop i xs k d) (leb-false _ _ (point.1 (i + k) d (omega arith) (omega (arith, length-drop i xs))))
