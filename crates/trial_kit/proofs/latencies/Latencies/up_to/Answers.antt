use Rattle.std.proofs.Common.{leb, rules, subst, sym, ◌∙◌, ◌≡◌, true, false}
use Rattle.std.specs.List.Sorted.{IsNonDecreasing, IsPartitionPoint}
use Rattle.std.proofs.lemmas.List.Sorted.{IsPartitionPoint-from_clause, IsPartitionedBy-leb}
use Rattle.trial_kit.proofs.LatencyLemmas.{none_above, all_above}
use Rattle.trial_kit.proofs.latencies.Latencies.up_to.Goals as goal

-- the result is the partition point
point : (c : goal.After-partition_point) → IsPartitionPoint (λ x. leb x c.args.bound ≡ true) (λ x. leb x c.args.bound ≡ false) c.args.self.now c.partition_point.result
point c =
    let shown : c.deref.result.now ≡ c.args.self.now = c.deref.ensures.value ∙ c.self.view_is in
    let ordered : IsNonDecreasing c.deref.result.now = subst IsNonDecreasing (sym c.deref.ensures.value) c.self.invariant in
    let turns : IsPartitionPoint (λ x. leb x c.args.bound ≡ true) (λ x. leb x c.args.bound ≡ false) c.deref.result.now c.partition_point.result =
    IsPartitionPoint-from_clause (λ x. leb x c.args.bound) _ _ c.partition_point.ensures.partitioned
    (IsPartitionedBy-leb (λ x. x) _ c.args.bound ordered) (λ a r q k. search rules) in
    rw shown at turns

pub returns-clause-below : goal.returns-clause-below
returns-clause-below c = none_above c.args.bound c.partition_point.result c.args.self.now (search rules) (point c)

pub returns-clause-above : goal.returns-clause-above
returns-clause-above c = all_above c.args.bound c.partition_point.result c.args.self.now (search rules) (point c)
