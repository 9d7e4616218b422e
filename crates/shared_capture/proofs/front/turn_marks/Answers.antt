use Rattle.std.proofs.Common.{ap, arith, length}
use Rattle.shared_capture.proofs.Changes.{lists_few}
use Rattle.shared_capture.proofs.front.turn_marks.Goals as goal

pub returns-clause-steps : goal.returns-clause-steps
returns-clause-steps g c = omega (arith, lists_few _ _ _ c.requires.changed, c.loop-j.invariant.6, c.loop-j.auto.j-end, c.requires.seat.1.2.words_length, ap length c.requires.seat.4)
