use Rattle.std.proofs.Common.{◌+◌, subst, arith, ℕ}
use mir.Facts.{Fits-lt-pow}
use Rattle.action_log.proofs.ExtentLemmas.{IsCounted, counted_none, counted_more, leading_to_end, leading_to_bad, leading_to_many}
use Rattle.action_log.proofs.reader.extent.behind_groups.Goals as goal

pub loop-group-init : goal.loop-group-init
loop-group-init c = counted_none c.args.format c.args.most c.args.bytes.now (λ i. Fits-lt-pow (c.type_inv.bytes i))

pub returns-in_default-count_group : goal.returns-in_default-count_group
returns-in_default-count_group c =
    leading_to_bad c.args.format c.args.most c.args.bytes.now c.loop-group.ticks c.loop-group.rest.now c.in-Some.group.now
    c.loop-group.invariant c.in-Some.ensures.gate c.in_default-count_group.ensures.none

pub returns-then-more-most : goal.returns-then-more-most
returns-then-more-most c =
    let group = c.in-Some-count_group.ensures.some in
    leading_to_many c.args.format c.args.most c.args.bytes.now c.loop-group.ticks c.loop-group.rest.now c.in-Some.group.now
    group.0 c.in-Some-count_group.next.now c.loop-group.invariant c.in-Some.ensures.gate group.1
    (omega (arith, group.2, c.if-more-most.true, c.loop-group.invariant.few))

pub loop-group-smaller : goal.loop-group-smaller
loop-group-smaller c =
    let group = c.in-Some-count_group.ensures.some in
    (counted_more c.args.format c.args.most c.args.bytes.now c.loop-group.ticks c.loop-group.rest.now c.in-Some.group.now group.0
    c.in-Some-count_group.next.now c.loop-group.invariant c.in-Some.ensures.gate group.1
    (omega (arith, group.2, c.if-more-most.false, c.loop-group.invariant.few))).1

pub loop-group-preserved : goal.loop-group-preserved
loop-group-preserved c =
    let group = c.in-Some-count_group.ensures.some in
    let next = counted_more c.args.format c.args.most c.args.bytes.now c.loop-group.ticks c.loop-group.rest.now
    c.in-Some.group.now group.0 c.in-Some-count_group.next.now c.loop-group.invariant c.in-Some.ensures.gate group.1
    (omega (arith, group.2, c.if-more-most.false, c.loop-group.invariant.few)) in
    subst (λ (n : ℕ). IsCounted c.args.format c.args.most c.args.bytes.now (c.loop-group.ticks + n) c.in-Some-count_group.next.now) group.2 next.0

pub returns : goal.returns
returns c = leading_to_end c.args.format c.args.most c.args.bytes.now c.loop-group.ticks c.loop-group.rest.now c.loop-group.invariant c.in_default.ensures.ends
