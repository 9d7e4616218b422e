use Rattle.capture_core.proofs.RoundsLemmas.{Copying}
use Rattle.capture_core.proofs.rounds.copy_round.Given as goal

abbrev pub invariant-loop-i : goal.invariant-loop-i
invariant-loop-i g l =
    let content = g.C.Capture.content in
    Copying (content l.fn.store) (content l.initial.store) l.fn.image l.changes l.i (content l.store) l.image
