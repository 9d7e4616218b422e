use Rattle.std.proofs.Common.{length, Result, Ok, Err, IfErr, ap, subst, arith}
use Rattle.std.specs.Prelude.{IsErr}
use Rattle.world_ticks.specs.After.{after_actions}
use Rattle.action_log.specs.Reading.{ticks_of}
use Rattle.action_log.specs.Segment.{actions_of}
use Rattle.action_log.proofs.GroupReadingLemmas.{groups_by}
use Rattle.action_log.proofs.ReadingLemmas.{held_groups, within_opened}
use Rattle.action_log.proofs.ReplayLemmas.{refused_at}
use Rattle.action_log.proofs.reader.HeldLog.replay.Goals as goal

on_err : {T E : Type 0} (r : Result T E) (P Q : E → Type 0) → ((e : E) → P e → Q e) → IfErr r P → IfErr r Q
on_err (Ok value) P Q f at = at
on_err (Err error) P Q f at = f error at

pub returns-clause-refused : goal.returns-clause-refused
returns-clause-refused g c =
    let held = c.args.self.now in
    on_err c.replay_groups.result _ _
    (λ extent stopped ticks e. (
    let opened = within_opened held.base (ticks_of held.format held.groups.now) ticks e in
    let all = groups_by held.format held.groups.now ticks opened.0 in
    subst (λ l. IsErr (after_actions (g.C.Cells.words c.args.c.now) (actions_of l))) all.2
    (refused_at all.0 (g.C.Cells.words c.args.c.now) extent.groups_end extent.ticks (stopped all.0 all.1 (omega (arith, ap length all.2, opened.1, c.most.ensures))))))
    c.replay_groups.ensures.stopped

pub returns-clause-stopped : goal.returns-clause-stopped
returns-clause-stopped g c =
    let held = c.args.self.now in
    on_err c.replay_groups.result _ _
    (λ extent stopped bytes base ticks segment in_them. (
    let read = held_groups bytes held in_them base ticks segment in
    stopped segment.groups read.1 (omega (arith, ap length segment.of_groups, segment.few, segment.numbered, read.2, c.most.ensures))))
    c.replay_groups.ensures.stopped
