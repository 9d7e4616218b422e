use Rattle.std.proofs.Common.{◌≡◌, ◌+◌, ◌<◌, length, All}
use Rattle.shared_capture.specs.declared.view.Round.{Round}
use Rattle.test_stores.proofs.tests.shared.threads.mark_rounds.Given as goal

abbrev pub invariant-loop-n : goal.invariant-loop-n
invariant-loop-n g l = (l.front.pair ≡ l.fn.front.pair) × (length l.front.live ≡ length l.fn.front.live)
    × All (λ (r : Round). r.tick < l.marked + 1) l.front.rounds
