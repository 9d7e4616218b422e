use Rattle.std.proofs.Common.{rules, ap}
use Rattle.shared_capture.proofs.Allowed.{finishes}
use Rattle.shared_capture.proofs.steps.finish.Goals as goal

pub store-requires : goal.store-requires
store-requires g c = (search rules, search rules, finishes _ _ _ _ _ _ (ap (λ z. z.0) c.requires.seat.0.1) (search rules) c.requires.seat.2)
