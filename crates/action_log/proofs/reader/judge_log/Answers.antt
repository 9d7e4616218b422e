use Rattle.std.proofs.Common.{length, Option, sym, ap, subst, ◌∙◌}
use Rattle.action_log.specs.declared.reader.HeldLog.{HeldLog}
use Rattle.action_log.specs.Segment.{joined, IsOpenSegment, IsSegment}
use Rattle.action_log.specs.HeldLog.{AreHeld, IsHeld, segment_held}
use Rattle.action_log.proofs.ValueReadingLemmas.{found_is}
use Rattle.action_log.proofs.ReadingLemmas.{held_groups}
use Rattle.action_log.proofs.reader.judge_log.Goals as goal

pub returns-clause-reads : goal.returns-clause-reads
returns-clause-reads c =
    let bytes = c.args.bytes.now in
    let log = c.in-Some.log in
    let counted = c.in_ok-counts.ensures.counted in
    let held : AreHeld bytes log = subst (IsHeld bytes) c.in-Some.is c.in_ok-log.ensures.reads.1 in
    let segment : IsOpenSegment bytes log.base (joined counted.groups) = subst (IsSegment bytes) counted.opened
    (subst (λ (held : Option HeldLog). IsSegment bytes (segment_held held)) c.in-Some.is c.in_ok-log.ensures.reads.0) in
    let same = held_groups bytes log held log.base (joined counted.groups) segment in
    record {
      held_in = held;
      ticks = joined counted.groups;
      segment = segment;
      format_is = same.0;
      groups_are = ap length (found_is segment.groups counted.groups (sym same.1 ∙ counted.read)) ∙ counted.groups_are;
      ticks_are = counted.ticks_are;
      actions_are = counted.actions_are;
    }
