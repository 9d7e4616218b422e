use Rattle.std.proofs.Common.{rules, ◌≡◌, ◌⊎◌, ◌<◌, List, take, inl, inr, sym, subst, ◌∙◌}
use Rattle.action_log.specs.declared.answer.LogAnswer.{LogAnswer}
use Rattle.action_log.specs.declared.answer.LogAnswer.TheVariants.{Idle, Down}
use Rattle.action_log.specs.declared.record.Record.{Record}
use Rattle.action_log.specs.Progress.{work_of, QueueFollows, end_of}
use Rattle.action_log.specs.Cover.{before_switch, answer_of, CoverStep}
use Rattle.action_log.proofs.CoverLemmas.{before_switch_most, before_switch_is, follows_left, work_falls, none_taken, all_left, cover_steps}
use Rattle.action_log.proofs.keeper.LogKeeper.cover.Goals as goal

pub returns-in-Ready-clause-rests : goal.returns-in-Ready-clause-rests
returns-in-Ready-clause-rests c =
    let queue = c.args.queue.now.items in
    let tick = c.args.tick in
    let count = before_switch tick queue in
    λ is.
    let none = none_taken tick (take count queue) (subst (λ (a : LogAnswer). (a ≡ Idle) ⊎ (a ≡ Down)) c.take_covered.ensures.answer is) in
    let same = c.take_covered.ensures.left ∙ all_left queue count (before_switch_most tick queue) none in
    search rules

pub returns-in-Ready-clause-lowers : goal.returns-in-Ready-clause-lowers
returns-in-Ready-clause-lowers c =
    let queue = c.args.queue.now.items in
    elim (work_falls c.args.self.now c.args.tick queue (before_switch c.args.tick queue) (before_switch_most c.args.tick queue)) [
      | inl idle ↦ inl (c.take_covered.ensures.answer ∙ idle)
      | inr less ↦ inr (inr (subst (λ (l : List Record). work_of c.args.self.now l < work_of c.args.self.now queue) (sym c.take_covered.ensures.left) less))
    ]

pub returns-in-Ready-clause-follows : goal.returns-in-Ready-clause-follows
returns-in-Ready-clause-follows c =
    let queue = c.args.queue.now.items in
    let keeper = c.args.self.now in
    λ follows. subst (λ (l : List Record). QueueFollows keeper l × (end_of keeper l ≡ end_of keeper queue)) (sym c.take_covered.ensures.left)
    (follows_left keeper c.args.tick queue (search rules) follows)

pub returns-in-Ready-clause-step : goal.returns-in-Ready-clause-step
returns-in-Ready-clause-step c =
    let queue = c.args.queue.now.items in
    let tick = c.args.tick in
    λ logs idle.
    subst (λ (a : LogAnswer). CoverStep logs queue tick a c.take_covered.new.queue.items) (sym c.take_covered.ensures.answer)
    (subst (λ (l : List Record). CoverStep logs queue tick (answer_of tick (take (before_switch tick queue) queue)) l) (sym c.take_covered.ensures.left)
    (cover_steps logs tick queue (before_switch tick queue) (idle (search rules)) (before_switch_is tick queue)))
