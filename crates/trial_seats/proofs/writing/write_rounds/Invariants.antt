use Rattle.std.proofs.Common.{◌≡◌, ◌+◌, ◌<◌, All}
use Rattle.shared_capture.specs.declared.view.Round.{Round}
use Rattle.trial_seats.proofs.writing.write_rounds.Given as goal

abbrev pub invariant-loop-round : goal.invariant-loop-round
invariant-loop-round g l = (l.front.pair ≡ l.fn.front.pair)
    × All (λ (r : Round). r.tick < l.round + 1) l.front.rounds
