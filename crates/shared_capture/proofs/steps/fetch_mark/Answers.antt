use Rattle.std.proofs.Common.{rules, ap, sym, ◌∙◌}
use Rattle.shared_capture.proofs.Allowed.{loads_mark, swaps_mark}
use Rattle.shared_capture.proofs.steps.fetch_mark.Goals as goal

pub load-requires : goal.load-requires
load-requires g c =
    (search rules, search rules, loads_mark _ _ _ _ _ _ (ap (λ z. z.0) c.requires.seat.0.1) c.mark_word-word.result (sym c.KIND.ensures ∙ c.in-Zigzag.is) (search rules) (search rules) (search rules))

pub swap-requires : goal.swap-requires
swap-requires g c = (
  search rules,
  search rules,
  swaps_mark _ _ _ _ _ _ (ap (λ z. z.0) c.requires.seat.0.1) c.mark_word-word.result
      (sym c.KIND.ensures ∙ c.in-PingPong.is) (search rules) (search rules) (search rules),
)
