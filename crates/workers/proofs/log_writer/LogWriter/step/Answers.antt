use Rattle.std.proofs.Common.{arith, ◌≡◌, ◌≢◌, ◌⊎◌, inl, inr, ℕ, ◌+◌, ◌≤◌, max, Bool, false, Some, None, length, length-append, refl, sym, ap, ◌∙◌, subst}
use Rattle.std.proofs.Math.Nat.{le-max_left, le-max_right}
use Rattle.action_log.specs.declared.answer.LogAnswer.TheVariants as answer
use Rattle.workers.specs.Items.{records_of}
use Rattle.workers.specs.Logging.{Logging, Writes, content_in, receipt_in}
use Rattle.workers.proofs.Coverings.{loads_one}
use Rattle.workers.proofs.Loggings.{reported_on, advanced}
use Rattle.workers.proofs.Numbers.{max_is_one}
use Rattle.workers.proofs.Receipts.{acknowledged}
use Rattle.workers.proofs.log_writer.LogWriter.step.Goals as goal

pub post_all-requires : goal.post_all-requires
post_all-requires g c = record {
  held = λ honest first stands.
      let up : c.self.inside.down ≡ false = ap (λ (w : Logging g.row.D.Denot). w.down) c.self.view_is ∙ c.requires.up in
      subst (λ (b : Bool). Writes g.D.Disk c.advance.new.log c.advance.new.queue.items
      c.latest-tick.new.self.numbers c.in-Acked.receipt b (content_in first) (records_of c.self.inside.from.items)) up
      (reported_on g.D.Disk _ c.self.invariant c.latest-tick.new.self
      c.latest-tick.result c.advance.new.log c.advance.new.queue c.advance.result c.in-Acked.receipt (inr c.in-Acked.is) c.latest-tick.ensures.loaded c.advance.ensures.advances honest first stands);
}

pub invariant_of-self-in-Down : goal.invariant_of-self-in-Down
invariant_of-self-in-Down g c =
    let e = c.advance.ensures in
    advanced g.D.Disk _ c.self.invariant c.latest-tick.new.self c.latest-tick.result
    c.advance.new.log c.advance.new.queue c.self.inside.answers c.advance.result c.self.inside.acked
    (e.started c.self.invariant.started) e.fits e.follows e.end e.ring refl refl (λ same. same) c.self.invariant.durable (inl refl) c.latest-tick.ensures.loaded e.advances
    g.met.D.Disk.keeps_byte e.calls

pub invariant_of-self-in-Acked : goal.invariant_of-self-in-Acked
invariant_of-self-in-Acked g c =
    let e = c.advance.ensures in
    let old = c.self.inside.answers in
    let posts = c.post_all.ensures.posts in
    let count : c.post_all.new.self.answered + length c.post_all.new.self.waiting
    ≡ old.answered + length old.waiting = omega (arith, posts.answered, ap length posts.order, length-append posts.done c.post_all.new.self.waiting) in
    let is : c.max-self-inside.result ≡ max c.self.inside.acked c.tick.result = c.max-self-inside.ensures in
    let greatest : c.in-Acked.receipt ≤ c.max-self-inside.result = omega (arith, c.tick.ensures, is, le-max_right c.self.inside.acked c.tick.result) in
    let least : old.posted ≤ c.max-self-inside.result = omega (arith, c.self.invariant.durable, is, le-max_left c.self.inside.acked c.tick.result) in
    let which : (c.max-self-inside.result ≡ c.self.inside.acked) ⊎ (c.advance.result ≡ answer.Acked c.max-self-inside.result) = elim (max_is_one c.self.inside.acked c.tick.result) [
      | inl same ↦ inl (is ∙ same)
      | inr now ↦ inr (c.in-Acked.is ∙ ap (λ k. answer.Acked k) (sym (is ∙ now ∙ c.tick.ensures)))
    ] in
    advanced g.D.Disk _ c.self.invariant c.latest-tick.new.self c.latest-tick.result
    c.advance.new.log c.advance.new.queue c.post_all.new.self c.advance.result c.max-self-inside.result
    (e.started c.self.invariant.started) e.fits e.follows e.end e.ring posts.room count posts.posted (posts.most c.max-self-inside.result least greatest) which c.latest-tick.ensures.loaded e.advances
    g.met.D.Disk.keeps_byte e.calls

pub invariant_of-self-in-Idle : goal.invariant_of-self-in-Idle
invariant_of-self-in-Idle g c =
    let e = c.advance.ensures in
    advanced g.D.Disk _ c.self.invariant c.latest-tick.new.self c.latest-tick.result
    c.advance.new.log c.advance.new.queue c.self.inside.answers c.advance.result c.self.inside.acked
    (e.started c.self.invariant.started) e.fits e.follows e.end e.ring refl refl (λ same. same) c.self.invariant.durable (inl refl) c.latest-tick.ensures.loaded e.advances
    g.met.D.Disk.keeps_byte e.calls

pub returns-in-Down-clause-loads : goal.returns-in-Down-clause-loads
returns-in-Down-clause-loads g c =
    loads_one c.args.self.now.covers c.self.inside.covers _ c.latest-tick.result (ap (λ (w : Logging g.row.D.Denot). w.covers) c.self.view_is)
    (ap (λ (w : Logging g.row.D.Denot). w.covers) c.fall-in-Down.ensures ∙ c.latest-tick.ensures.loaded)

pub returns-in-Acked-clause-loads : goal.returns-in-Acked-clause-loads
returns-in-Acked-clause-loads g c =
    loads_one c.args.self.now.covers c.self.inside.covers c.latest-tick.new.self c.latest-tick.result (ap (λ (w : Logging g.row.D.Denot). w.covers) c.self.view_is) c.latest-tick.ensures.loaded

pub returns-in-Idle-clause-loads : goal.returns-in-Idle-clause-loads
returns-in-Idle-clause-loads g c =
    loads_one c.args.self.now.covers c.self.inside.covers c.latest-tick.new.self c.latest-tick.result (ap (λ (w : Logging g.row.D.Denot). w.covers) c.self.view_is) c.latest-tick.ensures.loaded

pub returns-in-Acked-clause-posts : goal.returns-in-Acked-clause-posts
returns-in-Acked-clause-posts g c = λ _.
    let e = c.advance.ensures in
    let up : c.advance.result ≢ answer.Down = λ down. (let is = c.in-Acked.is in cc) in
    acknowledged c.args.self.now _ c.self.view_is c.latest-tick.new.self c.latest-tick.result c.advance.new.log c.advance.new.queue c.post_all.new.self c.max-self-inside.result
    c.latest-tick.ensures.loaded (Some c.in-Acked.receipt) (sym (ap receipt_in c.in-Acked.is) ∙ e.receipt up)
    (c.max-self-inside.ensures ∙ ap (λ (k : ℕ). max c.self.inside.acked k) c.tick.ensures, c.post_all.ensures.posts, c.post_all.ensures.others)

pub returns-in-Idle-clause-posts : goal.returns-in-Idle-clause-posts
returns-in-Idle-clause-posts g c = λ _.
    let e = c.advance.ensures in
    let up : c.advance.result ≢ answer.Down = λ down. elim c.in-Idle.is [ inl is ↦ cc | inr is ↦ cc ] in
    let none : receipt_in c.advance.result ≡ None = elim c.in-Idle.is [ inl is ↦ ap receipt_in is | inr is ↦ ap receipt_in is ] in
    acknowledged c.args.self.now _ c.self.view_is c.latest-tick.new.self c.latest-tick.result c.advance.new.log c.advance.new.queue c.self.inside.answers c.self.inside.acked
    c.latest-tick.ensures.loaded None (sym none ∙ e.receipt up) (refl, refl)
