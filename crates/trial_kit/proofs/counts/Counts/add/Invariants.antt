use Rattle.std.proofs.Common.{◌≡◌, ℕ, ◌<◌, ◌≤◌, length, slice_index}
use Rattle.trial_kit.specs.Counts.{sum_of}
use Rattle.trial_kit.proofs.counts.Counts.add.Given as goal

-- the counts of the things so far are the sums, and the other counts are as they were
abbrev pub invariant-loop-thing : goal.invariant-loop-thing
invariant-loop-thing g l =
    (length l.self-inside.counts ≡ g.row.N)
    × ((i : ℕ) → i < l.thing
    → slice_index l.self-inside.counts i ≡ sum_of (slice_index l.initial.self-inside.counts i) (slice_index l.other-inside.counts i))
    × ((i : ℕ) → l.thing ≤ i → slice_index l.self-inside.counts i ≡ slice_index l.initial.self-inside.counts i)
