use Rattle.std.proofs.Common.{rules, ap}
use Rattle.shared_capture.proofs.Allowed.{stores_value}
use Rattle.shared_capture.proofs.steps.store_value.Goals as goal

pub store-requires : goal.store-requires
store-requires g c =
    (search rules, search rules, stores_value _ _ _ _ _ _ (ap (λ z. z.0) c.requires.seat.0.1) c.args.i c.args.value c.cell.result (search rules) (search rules) (search rules) (search rules))
