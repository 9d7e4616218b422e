use Rattle.std.proofs.Common.{rules, ℕ, ◌≡◌, ◌≤◌, ◌+◌, false, sym, ap, ◌∙◌, subst, Some, slice_get, List, drop}
use Rattle.circular_buffer.specs.Buffer.{Buffer, buffer}
use Rattle.workers.specs.Posts.{Unposted}
use Rattle.workers.specs.Answering.{Posts}
use Rattle.workers.specs.Items.{records_of}
use Rattle.workers.specs.Logging.{content_in}
use Rattle.workers.proofs.Waits.{first_is, posts_more}
use Rattle.workers.proofs.Reporting.{writes_below}
use Rattle.workers.proofs.log_writer.answers.Answers.post_all.Goals as goal

pub post-requires-clause-held : goal.post-requires-clause-held
post-requires-clause-held g c = λ honest first stands.
    let inside = c.self.inside in
    let held = c.args.holding.now in
    let next = c.in-Some.next in
    let is : Some next ≡ slice_get inside.waiting.items 0 = sym c.in-Some.is ∙ c.pop_front.ensures.value in
    let durable : next.number ≤ c.args.receipt = search rules in
    writes_below g.D.Disk held.log held.ring.items held.covers.numbers c.args.receipt next.number false (content_in first) (records_of held.from.items) durable
    (c.requires.held honest first stands)

pub loop-receipt-preserved-in-Some : goal.loop-receipt-preserved-in-Some
loop-receipt-preserved-in-Some g c =
    let inside = c.self.inside in
    let receipt = c.args.receipt in
    let first = c.in-Some.next in
    let is : Some first ≡ slice_get inside.waiting.items 0 = sym c.in-Some.is ∙ c.pop_front.ensures.value in
    let front = first_is inside.waiting.items first is in
    let durable : first.number ≤ receipt = search rules in
    let next : first.number ≡ inside.given.answered.value + 1 = search rules in
    let popped : c.pop_front.new.self ≡ buffer front.0 inside.waiting.capacity = c.pop_front.ensures.items ∙ ap (λ (l : List Unposted). buffer (drop 1 l) inside.waiting.capacity) front.1 in
    let e = c.post.ensures in
    subst (λ (x : Buffer Unposted × ℕ × ℕ). Posts receipt c.args.self.now (record { waiting = x.0.items; room = x.0.capacity; answered = x.1; posted = x.2 }))
    (λ i. (sym popped i, sym e.answered i, sym e.posted i))
    (posts_more receipt c.args.self.now
    (record { waiting = inside.waiting.items; room = inside.waiting.capacity; answered = inside.given.answered.value; posted = inside.given.posted.tick.value }) first front.0
    (subst (Posts receipt c.args.self.now) (sym c.self.view_is) c.loop-receipt.invariant) front.1 durable next)
