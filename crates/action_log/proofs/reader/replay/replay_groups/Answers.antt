use Rattle.std.proofs.Common.{◌≡◌, ◌++◌, ◌∷◌, [], length, length-append, Some, Ok, refl, ap, ◌∙◌, arith}
use mir.Facts.{Fits-lt-pow}
use Rattle.world_ticks.specs.After.{after_actions}
use Rattle.action_log.specs.Segment.{joined}
use Rattle.action_log.specs.Segment.{actions_of}
use Rattle.action_log.proofs.GroupLemmas.{joined_with}
use Rattle.action_log.proofs.GroupReadingLemmas.{read_to_start, read_to_next, read_to_end, read_to_many, ticks_by}
use Rattle.action_log.proofs.ReplayLemmas.{ticks_done, groups_stop}
use Rattle.action_log.proofs.reader.replay.replay_groups.Goals as goal

pub loop-group-init : goal.loop-group-init
loop-group-init g c = record { groups = []; so_far = read_to_start c.args.format c.args.bytes.now (λ i. Fits-lt-pow (c.type_inv.bytes i)); counted = refl; few = omega arith; done = refl }

pub returns-in_default-replay_group-clause-stopped : goal.returns-in_default-replay_group-clause-stopped
returns-in_default-replay_group-clause-stopped g c =
    let read = c.loop-group.invariant in
    λ groups e few. groups_stop c.args.format c.args.bytes.now read.groups c.loop-group.rest.now c.in-Some.group.now _ c.loop-group.ticks (g.C.Cells.words c.args.c.now)
    (g.C.Cells.words c.loop-group.c) read.so_far c.in-Some.ensures.gate read.done refl read.counted c.in_default-replay_group.ensures.refused.1 groups e

pub loop-group-smaller : goal.loop-group-smaller
loop-group-smaller g c =
    let read = c.loop-group.invariant in
    let group = c.in-Ok.ensures.done in
    (read_to_next c.args.format c.args.bytes.now read.groups c.loop-group.rest.now c.in-Some.group.now group.0 c.in-Ok.next.now read.so_far c.in-Some.ensures.gate group.1).1

pub loop-group-preserved : goal.loop-group-preserved
loop-group-preserved g c =
    let read = c.loop-group.invariant in
    let group = c.in-Ok.ensures.done in
    let done : after_actions (g.C.Cells.words c.args.c.now) (actions_of (joined (read.groups ++ group.0 ∷ []))) ≡ Ok (g.C.Cells.words c.replay_group.new.c) =
    ap (λ l. after_actions (g.C.Cells.words c.args.c.now) (actions_of l)) (joined_with read.groups group.0)
    ∙ ticks_done (g.C.Cells.words c.args.c.now) (g.C.Cells.words c.loop-group.c) (g.C.Cells.words c.replay_group.new.c) (joined read.groups) group.0 read.done group.3 in
    record {
      groups = read.groups ++ group.0 ∷ [];
      so_far = (read_to_next c.args.format c.args.bytes.now read.groups c.loop-group.rest.now c.in-Some.group.now group.0 c.in-Ok.next.now read.so_far c.in-Some.ensures.gate group.1).0;
      counted = omega (arith, read.counted, ap length (joined_with read.groups group.0), length-append (joined read.groups) group.0, group.2);
      few = omega (arith, read.few, c.if-more-most.false);
      done = done;
    }

pub returns-then-more-most-clause-stopped : goal.returns-then-more-most-clause-stopped
returns-then-more-most-clause-stopped g c =
    let read = c.loop-group.invariant in
    let group = c.in-Ok.ensures.done in
    let next = (read_to_next c.args.format c.args.bytes.now read.groups c.loop-group.rest.now c.in-Some.group.now group.0 c.in-Ok.next.now read.so_far c.in-Some.ensures.gate group.1).0 in
    λ groups e few. (
    let many = read_to_many c.args.format c.args.bytes.now (read.groups ++ group.0 ∷ []) c.in-Ok.next.now groups next e in
    absurd (omega (arith, many, few, c.if-more-most.true, read.counted, group.2, ap length (joined_with read.groups group.0), length-append (joined read.groups) group.0, read.few)))

pub returns-clause-done : goal.returns-clause-done
returns-clause-done g c =
    let read = c.loop-group.invariant in (
      joined read.groups,
      ticks_by c.args.format c.args.bytes.now (Some read.groups) (read_to_end c.args.format c.args.bytes.now read.groups c.loop-group.rest.now read.so_far c.in_default.ensures.ends),
      read.counted,
      read.few,
      read.done,
    )
