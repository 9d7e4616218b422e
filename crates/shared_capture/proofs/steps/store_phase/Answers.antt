use Rattle.std.proofs.Common.{rules, ap}
use Rattle.shared_capture.proofs.Allowed.{stores_phase}
use Rattle.shared_capture.proofs.steps.store_phase.Goals as goal

pub store-requires : goal.store-requires
store-requires g c = (search rules, search rules, stores_phase _ _ _ _ _ _ (ap (λ z. z.0) c.requires.seat.0.1) c.args.tick (search rules) (search rules) (search rules))
