use Rattle.std.proofs.Common.{rules, ap}
use Rattle.shared_capture.proofs.SignalWord.{parts_of}
use Rattle.shared_capture.proofs.signal.parted.Goals as goal

pub split_seat-requires : goal.split_seat-requires
split_seat-requires c = (search rules, search rules, parts_of _ _ _ _ (ap (λ z. z.0) c.requires.seat.1))
