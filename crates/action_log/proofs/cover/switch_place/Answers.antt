use Rattle.std.proofs.Common.{◌≡◌, ℕ, ◌+◌, suc, take, ap, sym, subst, ◌∙◌, arith, rules}
use Rattle.std.specs.Prelude.{None}
use Rattle.action_log.specs.Cover.{switch_place}
use Rattle.action_log.proofs.CoverLemmas.{place_found, place_push, none_push}
use Rattle.action_log.proofs.cover.switch_place.Goals as goal
use Rattle.action_log.proofs.cover.switch_place.Goals.{in-Some+else-is_switch, in-None-1}

pub returns-in-Some : goal.returns-in-Some
returns-in-Some c =
    sym (place_found c.args.tick c.args.queue.now.items c.loop-i.i c.in-Some.queued.now (search rules) (search rules) c.loop-i.invariant)

pub loop-i-preserved : goal.loop-i-preserved
loop-i-preserved c =
    let queue = c.args.queue.now.items in
    let i = c.loop-i.i in
    let next : suc i ≡ i + 1 = omega arith in
    subst (λ (n : ℕ). switch_place c.args.tick (take n queue) ≡ None) next (elim c.match-get.branch [
      | in-Some+else-is_switch w ↦ place_push c.args.tick queue i w.in-Some.queued.now (search rules) (search rules) c.loop-i.invariant
      | in-None-1 w ↦ ap (switch_place c.args.tick) (none_push queue i (search rules)) ∙ c.loop-i.invariant
    ])
