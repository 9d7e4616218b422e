use Rattle.std.proofs.Common.{rules, ap}
use Rattle.shared_capture.proofs.Allowed.{loads_value}
use Rattle.shared_capture.proofs.steps.load_value.Goals as goal

pub load-requires : goal.load-requires
load-requires g c = (
  search rules,
  search rules,
  loads_value _ _ _ _ _ _ (ap (λ z. z.0) c.requires.seat.0.1) c.args.i c.cell.result (search rules)
      (search rules) (search rules) c.requires.known (search rules) (search rules) (search rules),
)
