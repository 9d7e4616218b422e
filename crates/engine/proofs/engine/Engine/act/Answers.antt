use Rattle.std.proofs.Common.{rules}
use Rattle.std.proofs.Common.{ap}
use Rattle.std.proofs.lemmas.Result.{on_err_weaker}
use Rattle.world_ticks.specs.Tick.{Actions}
use Rattle.capture_core.specs.Content.{Content}
use Rattle.engine.proofs.Acting.{only_read, same_size}
use Rattle.engine.proofs.engine.Engine.act.Goals as goal

pub invariant_of-self : goal.invariant_of-self
invariant_of-self g c =
    let order = c.self.invariant.1 in
    let store = c.self.inside.store in
    let next = c.act.new.c in
    let same = same_size c.act.result (g.C.Capture.content store) (g.C.Capture.content next)
    (λ writes. record { cells = c.accesses_write.ensures.cells store next _ writes; left = ap (λ (x : Content). x.left) (c.accesses_write.ensures.content store next _ writes) })
    (λ unchanged. c.accesses_write.ensures.unchanged store next unchanged.2) c.act.ensures.writes c.act.ensures.unchanged in search rules

pub returns-clause-unchanged : goal.returns-clause-unchanged
returns-clause-unchanged g c = on_err_weaker c.act.result (λ h. only_read _ c.args.self.now (g.C.Capture.content c.act.new.c) c.act.new.t.list
    (c.accesses_write.ensures.unchanged c.self.inside.store c.act.new.c h.2) (ap (λ (t : Actions). t.list) h.1) c.self.view_is) c.act.ensures.unchanged
