use Rattle.std.proofs.Common.{rules, ap}
use Rattle.shared_capture.specs.SignalWord.{stored_of}
use Rattle.shared_capture.proofs.SignalWord.{publishes}
use Rattle.shared_capture.proofs.signal.SignalOut.publish.Goals as goal

pub store-requires : goal.store-requires
store-requires c = (search rules, search rules, publishes _ _ _ (stored_of c.self.inside.seat.me.0) c.args.next (ap (λ z. z.0) c.self.invariant.1))
