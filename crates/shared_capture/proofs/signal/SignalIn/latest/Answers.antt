use Rattle.std.proofs.Common.{rules, ap}
use Rattle.shared_capture.specs.SignalWord.{loaded_of}
use Rattle.shared_capture.proofs.SignalWord.{loads}
use Rattle.shared_capture.proofs.signal.SignalIn.latest.Goals as goal

pub load-requires : goal.load-requires
load-requires c = (search rules, search rules, loads _ _ _ (loaded_of c.self.inside.seat.me.0) (ap (λ z. z.0) c.self.invariant.1))
