use Rattle.std.proofs.Common.{None, ◌∙◌}
use Rattle.std.proofs.lemmas.Result.{IfOk-weaker}
use Rattle.engine.specs.Begins.{Begins}
use Rattle.world_start.specs.Steps.{IsBegunFresh}
use Rattle.world_start.proofs.Made.{fresh_begun}
use Rattle.world_start.proofs.fresh.begin_fresh.Goals as goal

pub returns-in-Ok-clause-begun : goal.returns-in-Ok-clause-begun
returns-in-Ok-clause-begun g c = λ honest.
    let D = g.D.Disk in
    let made = c.in-Ok.ensures in
    IfOk-weaker c.begin.result (Begins None 0 c.deref.result.now c.in-Ok.shut c.empty_world.new.files) (IsBegunFresh D c.args.files c.args.cells) (λ world begun.
    fresh_begun D c.event_laws.ensures c.keeper_laws.ensures c.args.files c.empty_world.new.files (made.kept honest) (made.closed honest) c.args.cells c.requires.0 c.requires.1
    c.deref.result.now (c.deref.ensures.value ∙ made.words) c.in-Ok.shut (made.gates honest) world begun)
    c.begin.ensures.begins
