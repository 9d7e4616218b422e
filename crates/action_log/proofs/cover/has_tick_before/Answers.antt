use Rattle.std.proofs.Common.{◌≡◌, ℕ, ◌+◌, suc, false, take, ap, sym, subst, ◌∙◌, arith, rules}
use Rattle.action_log.specs.Cover.{has_tick}
use Rattle.action_log.proofs.CoverLemmas.{tick_found, no_tick_push, none_push}
use Rattle.action_log.proofs.cover.has_tick_before.Goals as goal
use Rattle.action_log.proofs.cover.has_tick_before.Goals.{in-Some+else-is_tick, in-None-1}

pub returns-in-Some : goal.returns-in-Some
returns-in-Some c = sym (tick_found c.args.queue.now.items c.loop-i.i c.args.count c.in-Some.queued.now c.loop-i-test.true (search rules) (search rules))

pub loop-i-preserved : goal.loop-i-preserved
loop-i-preserved c =
    let queue = c.args.queue.now.items in
    let i = c.loop-i.i in
    let next : suc i ≡ i + 1 = omega arith in
    subst (λ (n : ℕ). has_tick (take n queue) ≡ false) next (elim c.match-get.branch [
      | in-Some+else-is_tick w ↦ no_tick_push queue i w.in-Some.queued.now (search rules) (search rules) c.loop-i.invariant
      | in-None-1 w ↦ ap has_tick (none_push queue i (search rules)) ∙ c.loop-i.invariant
    ])
