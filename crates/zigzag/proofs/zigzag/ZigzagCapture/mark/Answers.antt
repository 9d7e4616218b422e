use Rattle.zigzag.proofs.ArraysLemmas.{marks-marked_arrays}
use Rattle.zigzag.proofs.zigzag.ZigzagCapture.mark.Goals as goal

pub returns-clause-marks : goal.returns-clause-marks
returns-clause-marks c = rw c.turn_marks.ensures (marks-marked_arrays c.args.self.now)
