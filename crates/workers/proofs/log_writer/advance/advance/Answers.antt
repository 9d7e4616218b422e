use Rattle.std.proofs.Common.{rules, ◌≡◌, ◌+◌, false, inl, refl, sym, ap, ◌∙◌, subst}
use Rattle.circular_buffer.specs.Buffer.{Buffer}
use Rattle.action_log.specs.declared.answer.LogAnswer.{LogAnswer}
use Rattle.action_log.specs.declared.record.Record.{Record}
use Rattle.action_log.specs.Logs.{LogPlace, Writing}
use Rattle.action_log.specs.LogSteps.{LogsStep}
use Rattle.action_log.specs.Stands.{Stands}
use Rattle.workers.specs.Logging.{receipt_by}
use Rattle.restart.proofs.Calling.{log_calls_one}
use Rattle.std.proofs.lemmas.Bool.{false_from_ne_true}
use Rattle.workers.proofs.Receipts.{step_receipt}
use Rattle.workers.proofs.log_writer.advance.advance.Goals as goal

pub returns-in-Idle-clause-advances : goal.returns-in-Idle-clause-advances
returns-in-Idle-clause-advances g c = λ honest logs stands.
    let D = g.D.Disk in
    let went = c.step.ensures.journal honest (record { journal = Writing logs; left = 0 }) stands in
    let next = went.2.0 in (
      next,
      subst (λ (p : LogPlace). Stands c.step.new.self (D.content c.step.new.a) (D.content c.step.new.b) (D.may_leave c.step.new.a) (D.may_leave c.step.new.b) p) went.2.1 went.1,
      inl (subst (λ (b : Buffer Record). LogsStep logs b.items c.step.result next c.step.new.queue.items) (c.in-Idle.ensures.rests (inl refl)) went.2.2),
    )

pub returns-in-Idle-clause-calls : goal.returns-in-Idle-clause-calls
returns-in-Idle-clause-calls g c =
    let keeper = c.args.log.now.keeper in
    let up : keeper.down ≡ false = search rules in
    log_calls_one g.D.Disk.called keeper.current keeper.phase c.cover.new.queue.items c.args.log.now.a c.step.new.a c.args.log.now.b c.step.new.b (c.step.ensures.calls up)

pub returns-in-Idle-clause-receipt : goal.returns-in-Idle-clause-receipt
returns-in-Idle-clause-receipt g c = λ stays.
    let e = c.step.ensures in
    let keeper = c.args.log.now.keeper in
    let new = c.step.new.self in
    let up : keeper.down ≡ false = search rules in
    let still : new.down ≡ false = false_from_ne_true new.down (λ down. stays (e.down.1 down)) in
    let last = new.base + new.count in
    step_receipt c.step.result keeper.phase last (λ tick is. ((e.receipt tick).0 is).0) (λ at. (e.receipt last).1 (at, up, still, refl))
    ∙ ap (λ (a : LogAnswer). receipt_by a keeper.phase last) (sym c.in-Idle.is ∙ c.cover.ensures.answer)
