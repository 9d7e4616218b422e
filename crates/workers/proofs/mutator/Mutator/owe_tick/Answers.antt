use Rattle.std.proofs.Common.{rules, ◌≡◌, ℕ, ◌+◌, false, sym, ap, ◌∙◌}
use Rattle.batches.specs.Answer.{answer}
use Rattle.workers.specs.Posts.{AskedBatch, Unposted}
use Rattle.workers.proofs.Histories.{owes_tick, owes_nothing}
use Rattle.workers.proofs.Turning.{runs_of, ran_tick}
use Rattle.workers.proofs.mutator.Mutator.owe_tick.Goals as goal

pub invariant_of-self-2 : goal.invariant_of-self-2
invariant_of-self-2 g c =
    let requests = c.batch.result.now.list in
    let waits = c.wait-answer.ensures in
    let number : c.wait-answer.result.number ≡ c.self.inside.ended + 1 = ap (λ (u : Unposted). u.number) waits in
    owes_tick _ c.play-played.new.front c.hears_down.new.heard c.self.invariant (search rules)
    (record { tick = c.in-Ok.played.0; answer = c.wait-answer.result }) c.args.ask requests
    (c.batch.ensures ∙ sym (ap (λ (u : Unposted). u.asked.requests) waits))
    (ap (λ (u : Unposted). u.asked) waits ∙ c.take_buffer-buffer.ensures) (search rules) c.play-played.ensures.rounds c.in-Ok.ensures.tick
    (ap (λ (u : Unposted). u.text) waits ∙ (c.in-Ok.ensures.text ∙ ap (λ (n : ℕ). answer requests c.self.inside.front.live n) (sym number)))
    number c.in-Ok.ensures.words (search rules) c.play-played.ensures.untouched

pub returns : goal.returns
returns g c =
    let requests = c.batch.result.now.list in
    let waits = c.wait-answer.ensures in
    let number : c.wait-answer.result.number ≡ c.self.inside.ended + 1 = ap (λ (u : Unposted). u.number) waits in
    let text = ap (λ (u : Unposted). u.text) waits ∙ (c.in-Ok.ensures.text ∙ ap (λ (n : ℕ). answer requests c.self.inside.front.live n) (sym number)) in
    let up : c.self.inside.stopped ≡ false = search rules in (
      c.passes.ensures.goes (search rules),
      (search rules),
      ran_tick _ c.args.self.now c.self.view_is c.play-played.new.front c.hears_down.new.heard c.args.ask (record { tick = c.in-Ok.played.0; answer = c.wait-answer.result })
          (runs_of _ _ _ c.args.ask requests (c.batch.ensures ∙ ap (λ (a : AskedBatch). a.requests) c.take_buffer-buffer.ensures)
          number (ap (λ (u : Unposted). u.asked) waits ∙ c.take_buffer-buffer.ensures) c.play-played.ensures.rounds.0
          (record { tick = c.in-Ok.ensures.tick; text = text; words = c.in-Ok.ensures.words; rounds = c.play-played.ensures.rounds.1 })
          (c.play-played.ensures.untouched c.self.invariant.flags))
          (owes_nothing _ c.self.invariant up) (c.hears_down.ensures.up (search rules)),
    )
