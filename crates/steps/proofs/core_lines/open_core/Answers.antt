use Rattle.steps.proofs.core_lines.open_core.Goals as goal
use Rattle.world_core.specs.Past.{fresh_past}

pub returns-clause-opens : goal.returns-clause-opens
returns-clause-opens g c =
    let made = c.in_ok-core.ensures in
    let run = c.run_start.ensures.starts fresh_past made.fresh in
    (run.0, run.1.log.on.stands, record { first = c.in_ok-core.core; fresh = made.begins; stands = made.fresh; start = run.1 })
