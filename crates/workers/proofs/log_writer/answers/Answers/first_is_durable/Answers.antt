use Rattle.std.proofs.Common.{rules, ◌≡◌, ◌≤◌, ◌<◌, sym, ap, ◌∙◌, subst, Some, slice_get}
use Rattle.std.specs.Option.{option_copied}
use Rattle.workers.specs.Answering.{Answering, AreLater}
use Rattle.workers.proofs.Waits.{first_is, first_later}
use Rattle.workers.proofs.log_writer.answers.Answers.first_is_durable.Goals as goal

pub returns-in-Some-clause-first : goal.returns-in-Some-clause-first
returns-in-Some-clause-first c = λ durable.
    let is : Some c.in-Some.first.now ≡ slice_get c.self.inside.waiting.items 0 = sym (ap option_copied c.in-Some.is) ∙ c.front.ensures in
    let front = first_is c.self.inside.waiting.items c.in-Some.first.now is in
    let most : c.in-Some.first.now.number ≤ c.args.receipt = search rules in
    (c.in-Some.first.now, front.0, sym (ap (λ (a : Answering). a.waiting) c.self.view_is) ∙ front.1, most)

pub returns-in-Some-clause-others : goal.returns-in-Some-clause-others
returns-in-Some-clause-others c = λ later.
    let is : Some c.in-Some.first.now ≡ slice_get c.self.inside.waiting.items 0 = sym (ap option_copied c.in-Some.is) ∙ c.front.ensures in
    let least : c.args.receipt < c.in-Some.first.now.number = search rules in
    subst (λ (a : Answering). AreLater c.args.receipt a.waiting) c.self.view_is
    (first_later c.args.receipt c.self.inside.given.answered.value c.self.inside.waiting.items c.in-Some.first.now c.self.invariant is least)
