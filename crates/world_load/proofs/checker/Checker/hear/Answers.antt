use Rattle.std.proofs.Common.{arith, ap, ◌≡◌}
use Rattle.world_load.specs.Answer.{Checking}
use Rattle.world_load.proofs.AnswerLemmas.{read_as_no_later}
use Rattle.world_load.proofs.checker.Checker.hear.Goals as goal

pub returns-in_default-clause-wrong : goal.returns-in_default-clause-wrong
returns-in_default-clause-wrong c = λ _ tick later fits.
    let read = c.in-Some.ensures in
    let before = c.if-tick-self.false in
    let end = ap (λ (p : Checking). p.end) c.self.view_is in
    let last = ap (λ (p : Checking). p.last) c.self.view_is in
    let shown : c.deref.result.now ≡ c.args.self.now.end = cc (c.deref.ensures.value, end) in
    read_as_no_later c.args.answer.now c.deref.result.now c.args.self.now.end c.in-Some.tick c.args.self.now.last
    shown read.0 read.1 (omega (arith, before, last)) tick later fits
