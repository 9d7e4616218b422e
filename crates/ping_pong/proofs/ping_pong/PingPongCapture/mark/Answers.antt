use Rattle.ping_pong.proofs.ArraysLemmas.{marks-swapped_arrays}
use Rattle.ping_pong.proofs.ping_pong.PingPongCapture.mark.Goals as goal

pub returns-clause-marks : goal.returns-clause-marks
returns-clause-marks c = rw c.swap_arrays.ensures.moved (marks-swapped_arrays c.args.self.now c.swap_arrays.ensures.order)
