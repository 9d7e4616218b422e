use Rattle.std.proofs.Common.{◌++◌, ◌∷◌, [], refl, ap, arith, length, length-append}
use mir.Facts.{Fits-lt-pow}
use Rattle.action_log.specs.Segment.{joined}
use Rattle.action_log.specs.Segment.{actions_of}
use Rattle.action_log.proofs.GroupLemmas.{joined_with}
use Rattle.action_log.proofs.GroupReadingLemmas.{read_to_start, read_to_next, read_to_bad, read_to_end, read_to_many}
use Rattle.action_log.proofs.GroupReadingLemmas.{length-actions_of-append}
use Rattle.action_log.proofs.reader.ticks.count_all.Goals as goal

pub loop-group-init : goal.loop-group-init
loop-group-init c = record {
  short = omega arith;
  few = omega arith;
  bounded = omega arith;
  so_far = record { done = []; groups_are = refl; ticks_are = refl; actions_are = refl; so_far = read_to_start c.args.format c.args.bytes.now (λ i. Fits-lt-pow (c.type_inv.bytes i)) };
}

pub returns-in_err-ticks-clause-none : goal.returns-in_err-ticks-clause-none
returns-in_err-ticks-clause-none c =
    let read = c.loop-group.invariant.so_far in
    rw c.from_residual.ensures (λ groups e.
    (let none = read_to_bad c.args.format c.args.bytes.now read.done c.loop-group.rest.now c.in-Some.group.now read.so_far c.in-Some.ensures.gate c.in_err-ticks.ensures.none in absurd cc))

pub returns-then-ticks-most-clause-none : goal.returns-then-ticks-most-clause-none
returns-then-ticks-most-clause-none c =
    let read = c.loop-group.invariant.so_far in
    let group = c.in_ok-ticks.ensures.some in
    let next = (read_to_next c.args.format c.args.bytes.now read.done c.loop-group.rest.now c.in-Some.group.now group.0 c.in_ok-ticks.next.now read.so_far c.in-Some.ensures.gate group.1).0 in
    λ groups e. (let many = read_to_many c.args.format c.args.bytes.now (read.done ++ group.0 ∷ []) c.in_ok-ticks.next.now groups next e in
    omega (arith, many, c.if-ticks-most.true, read.ticks_are, group.2, ap length (joined_with read.done group.0), length-append (joined read.done) group.0, c.loop-group.invariant.few))

pub loop-group-smaller : goal.loop-group-smaller
loop-group-smaller c =
    let read = c.loop-group.invariant.so_far in
    let group = c.in_ok-ticks.ensures.some in
    (read_to_next c.args.format c.args.bytes.now read.done c.loop-group.rest.now c.in-Some.group.now group.0 c.in_ok-ticks.next.now read.so_far c.in-Some.ensures.gate group.1).1

pub loop-group-preserved : goal.loop-group-preserved
loop-group-preserved c =
    let read = c.loop-group.invariant.so_far in
    let group = c.in_ok-ticks.ensures.some in
    let next = read_to_next c.args.format c.args.bytes.now read.done c.loop-group.rest.now c.in-Some.group.now group.0 c.in_ok-ticks.next.now read.so_far c.in-Some.ensures.gate group.1 in
    record {
      short = omega (arith, c.loop-group.invariant.short, next.1);
      few = omega (arith, c.if-ticks-most.false, c.loop-group.invariant.few);
      bounded = omega (arith, c.loop-group.invariant.bounded, c.in_ok-ticks.ensures.most);
      so_far = record {
        done = read.done ++ group.0 ∷ [];
        groups_are = omega (arith, length-append read.done (group.0 ∷ []), read.groups_are);
        ticks_are = omega (arith, ap length (joined_with read.done group.0), length-append (joined read.done) group.0, read.ticks_are, group.2);
        actions_are = omega (arith, ap (λ ticks. length (actions_of ticks)) (joined_with read.done group.0), length-actions_of-append (joined read.done) group.0, read.actions_are, group.3);
        so_far = next.0;
      };
    }

pub returns-clause-some : goal.returns-clause-some
returns-clause-some c =
    let read = c.loop-group.invariant.so_far in (
      read.done,
      read_to_end c.args.format c.args.bytes.now read.done c.loop-group.rest.now read.so_far c.in_default.ensures.ends,
      read.groups_are,
      read.ticks_are,
      c.loop-group.invariant.few,
      read.actions_are,
    )
