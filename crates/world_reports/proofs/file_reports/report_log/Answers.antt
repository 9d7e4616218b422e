use Rattle.std.proofs.Common.{sym, subst}
use Rattle.action_log.specs.HeldLog.{IsJudged}
use Rattle.world_reports.proofs.file_reports.report_log.Goals as goal

pub returns-in-Ok-Some : goal.returns-in-Ok-Some
returns-in-Ok-Some c =
    let judged = subst (IsJudged c.args.bytes.now) c.in-Ok-Some.field-0-is c.in-Ok-Some.ensures.reads in
    (judged.ticks, judged.segment, sym judged.format_is, sym judged.groups_are, sym judged.ticks_are)
