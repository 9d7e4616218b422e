use Rattle.std.proofs.Common.{rules, ◌≡◌, ◌+◌, ◌++◌, ◌∷◌, [], length, subst, sym}
use Rattle.circular_buffer.specs.Buffer.{Buffer, buffer}
use Rattle.workers.specs.Posts.{Unposted}
use Rattle.workers.specs.Answering.{Answering, AreNext}
use Rattle.workers.proofs.Waits.{next_more}
use Rattle.workers.proofs.log_writer.answers.Answers.push.Goals as goal

pub invariant_of-self : goal.invariant_of-self
invariant_of-self c =
    let old = c.self.inside in
    let pushed : c.try_push_back.new.self ≡ buffer (old.waiting.items ++ c.args.next ∷ []) old.waiting.capacity = search rules in
    let next = subst (λ (a : Answering). c.args.next.number ≡ a.answered + length a.waiting + 1) (sym c.self.view_is) c.requires.next in
    subst (λ (b : Buffer Unposted). AreNext old.given.answered.value b.items) (sym pushed) (next_more old.given.answered.value old.waiting.items c.args.next c.self.invariant next)
