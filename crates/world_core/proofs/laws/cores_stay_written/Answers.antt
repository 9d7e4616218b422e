use Rattle.world_core.proofs.Written.{stay_written}
use Rattle.world_core.proofs.laws.cores_stay_written.Goals as goal

pub returns : goal.returns
returns c = stay_written c.safety_laws.ensures
