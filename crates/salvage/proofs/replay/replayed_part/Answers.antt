use Rattle.std.proofs.Common.{rules}
use Rattle.std.proofs.Common.{Option, subst, inr}
use Rattle.action_log.specs.declared.reader.HeldLog.{HeldLog}
use Rattle.action_log.specs.Segment.{IsSegment}
use Rattle.action_log.specs.HeldLog.{AreHeld, IsHeld, IsRefusedAt, segment_held, segment_of_held}
use Rattle.salvage.specs.Parts.{kept_log}
use Rattle.salvage.specs.Replay.{IsRefused}
use Rattle.salvage.proofs.Replaying.{accepted, stays_elsewhere, kept_open, kept_replayed}
use Rattle.salvage.proofs.replay.replayed_part.Goals as goal

pub returns-then-log-world-clause-part : goal.returns-then-log-world-clause-part
returns-then-log-world-clause-part c =
    let log = c.in-Ok-Some.log in
    let held : AreHeld (kept_log c.args.formed c.args.bytes.now) log =
    subst (λ l. AreHeld l log) c.kept.ensures (subst (IsHeld c.kept.result.now) c.in-Ok-Some.field-0-is c.in-Ok-Some.ensures.reads.1) in
    stays_elsewhere c.args.world.tick c.args.world.words.items c.args.bytes.now c.args.formed log held c.if-log-world.true

pub returns-in-Ok-clause-part : goal.returns-in-Ok-clause-part
returns-in-Ok-clause-part c = search (rules, accepted)

pub returns-clause-part : goal.returns-clause-part
returns-clause-part c =
    let log = c.in-Ok-Some.log in
    let kept = kept_log c.args.formed c.args.bytes.now in
    let words = c.args.world.words.items in
    let held : AreHeld kept log = subst (λ l. AreHeld l log) c.kept.ensures (subst (IsHeld c.kept.result.now) c.in-Ok-Some.field-0-is c.in-Ok-Some.ensures.reads.1) in
    let reads : IsSegment kept (segment_of_held log) =
    subst (λ l. IsSegment l (segment_of_held log)) c.kept.ensures
    (subst (λ (held : Option HeldLog). IsSegment c.kept.result.now (segment_held held)) c.in-Ok-Some.field-0-is c.in-Ok-Some.ensures.reads.0) in
    let opened = kept_open c.args.bytes.now c.args.formed log c.requires.kept reads in
    let leading = c.in-Err.leading in
    let refused : IsRefused log.base words kept c.part_before.result = record {
      list = opened.0;
      segment = opened.1;
      at = leading.groups_end;
      ticks = leading.ticks;
      refused = subst (λ w. IsRefusedAt opened.1.groups w leading.groups_end leading.ticks) c.new.ensures (c.in-Err.ensures.stopped kept log.base opened.0 opened.1 held);
      part_is = c.part_before.ensures;
    } in
    inr (subst (λ base. IsRefused base words kept c.part_before.result) c.if-log-world.false refused)

pub returns-clause-kept : goal.returns-clause-kept
returns-clause-kept c =
    kept_replayed c.args.world.tick c.args.world.words.items c.args.bytes.now c.args.formed c.part_before.result c.requires.kept (returns-clause-part c)
