use Rattle.world_core.proofs.Safe.{core_is_safe, fresh_recovered}
use Rattle.world_core.proofs.laws.cores_are_safe.Goals as goal

pub returns-clause-safe : goal.returns-clause-safe
returns-clause-safe c = core_is_safe c.safety_laws.ensures

pub returns-clause-fresh : goal.returns-clause-fresh
returns-clause-fresh c = fresh_recovered c.safety_laws.ensures
