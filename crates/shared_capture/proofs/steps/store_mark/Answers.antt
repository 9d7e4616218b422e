use Rattle.std.proofs.Common.{rules, ap}
use Rattle.shared_capture.proofs.Allowed.{stores_mark}
use Rattle.shared_capture.proofs.steps.store_mark.Goals as goal

pub store-requires : goal.store-requires
store-requires g c = (
  search rules,
  search rules,
  stores_mark _ _ _ _ _ _ (ap (λ z. z.0) c.requires.seat.0.1) c.args.k c.args.word
      c.mark_word.result (search rules) (search rules) (search rules) (search rules) (search rules),
)
