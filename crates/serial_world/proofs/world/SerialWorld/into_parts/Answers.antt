use Rattle.std.proofs.Common.{sym, subst}
use Rattle.engine.specs.Follows.{Follows}
use Rattle.serial_world.specs.Runs.{Serves}
use Rattle.serial_world.proofs.world.SerialWorld.into_parts.Goals as goal

pub returns-in-Ok-clause-settled : goal.returns-in-Ok-clause-settled
returns-in-Ok-clause-settled g c = λ up idle none first ticks serves.
    let D = g.D.Disk in
    let acked = c.self.inside.state.acked in
    let now = subst (λ s. Serves D s first ticks) (sym c.self.view_is) serves in
    c.into_parts.ensures.settled up idle none first ticks acked
    (subst (λ w. Follows D w first ticks acked) (sym c.in-Ok.ensures.same) now.follows)
