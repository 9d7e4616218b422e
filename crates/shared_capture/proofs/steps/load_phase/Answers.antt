use Rattle.std.proofs.Common.{rules, ap}
use Rattle.shared_capture.proofs.Allowed.{loads_phase}
use Rattle.shared_capture.proofs.steps.load_phase.Goals as goal

pub load-requires : goal.load-requires
load-requires g c = (search rules, search rules, loads_phase _ _ _ _ _ _ (ap (λ z. z.0) c.requires.seat.1))
