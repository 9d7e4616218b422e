use Rattle.std.proofs.Common.{rules}
use Rattle.std.proofs.Common.{◌≡◌, sym, subst, arith}
use Rattle.engine.specs.World.{IsAtRest}
use Rattle.engine.specs.Follows.{Follows}
use Rattle.engine.proofs.Rest.{none_waits, no_work, log_is_ready, settles}
use Rattle.engine.proofs.engine.Engine.into_parts.Goals as goal

pub returns-clause-none_queued : goal.returns-clause-none_queued
returns-clause-none_queued g c = search (rules, none_waits, no_work)

pub returns-clause-rest : goal.returns-clause-rest
returns-clause-rest g c = search (rules, log_is_ready)

pub returns-clause-settled : goal.returns-clause-settled
returns-clause-settled g c = λ up idle none first ticks acknowledged follows.
    let D = g.D.Disk in
    let was = c.self.inside in
    let rest = subst IsAtRest (sym c.self.view_is) c.requires.rest in
    let order = c.self.invariant.1 in
    let f = subst (λ w. Follows D w first ticks acknowledged) (sym c.self.view_is) follows in
    let rests = no_work was.log was.queue.items rest.rests up in
    let waits = none_waits was.log was.queue.items rests in
    let ready = log_is_ready was.log was.queue.items was.ended was.since rest.rests order.queue_end order.within up in
    let base : was.log.base ≡ was.ended = (let all = ready.all in omega (arith, all, none)) in
    let s = settles D c.keeper_laws.ensures _ first ticks acknowledged f rest.started rest.running idle ready.ready waits.1 base in
    search rules
