use Rattle.std.proofs.Common.{rules, sym}
use Rattle.world_folder.proofs.fault.stands_in.Goals as goal

pub returns-in-Err-clause-fault : goal.returns-in-Err-clause-fault
returns-in-Err-clause-fault c = (c.in-Err.ensures.refused, c.in_ok-world.world, c.in_ok-world.ensures.recovered, sym c.in-Err.ensures.judged)

pub returns-in_err-world-clause-fault : goal.returns-in_err-world-clause-fault
returns-in_err-world-clause-fault c =
    let explained = c.in_err-world.ensures.fault c.args.checks in
    search rules
