use Rattle.std.proofs.Common.{rules, ap}
use Rattle.shared_capture.specs.SignalWord.{stored_of, loaded_of}
use Rattle.shared_capture.proofs.SignalWord.{moves_of, joins_of, meets}
use Rattle.shared_capture.proofs.signal.meet_seats.Goals as goal

pub split_seat-moved-requires : goal.split_seat-moved-requires
split_seat-moved-requires c = (search rules, search rules, moves_of _ _ _ (ap (λ z. z.0) c.requires.from.1))

pub join_seat-requires : goal.join_seat-requires
join_seat-requires c =
    (search rules, search rules, search rules, search rules, joins_of _ _ _ _ (stored_of c.args.out.now.me.0) (loaded_of c.args.from.now.me.0) (ap (λ z. z.0) c.requires.out.1) (search rules))

pub load-requires : goal.load-requires
load-requires c = (search rules, search rules, meets _ _ _ (stored_of c.args.out.now.me.0) (loaded_of c.args.from.now.me.0) (search rules))
