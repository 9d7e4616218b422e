use Rattle.std.proofs.Common.{◌≡◌}
use Rattle.trial_damage.specs.Tally.{judged}
use Rattle.trial_damage.proofs.try_copies.Given as goal

-- each copy so far was judged
abbrev pub invariant-loop-number : goal.invariant-loop-number
invariant-loop-number l = judged l.tally ≡ l.number
