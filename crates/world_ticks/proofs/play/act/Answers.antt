use Rattle.std.proofs.Common.{◌≡◌}
use Rattle.world_actions.specs.Effect.{writes_of, change_writes}
use Rattle.world_ticks.proofs.PerformsLemmas.{performs_then}
use Rattle.world_ticks.proofs.play.act.Goals as goal

pub returns-clause-writes : goal.returns-clause-writes
returns-clause-writes g c =
    let writes : writes_of (g.C.Cells.words c.args.c.now) c.args.a ≡ change_writes c.args.a c.in_ok-change.change = c.in_ok-change.ensures.writes in
    rw (writes) (performs_then c.decided.ensures.reads c.put.ensures.writes)
