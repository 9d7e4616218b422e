use Rattle.std.proofs.Common.{rules, ap}
use Rattle.shared_capture.specs.Steps.{front_of, back_of}
use Rattle.shared_capture.proofs.Allowed.{moves_of, joins_of, meets_both}
use Rattle.shared_capture.proofs.steps.meet.Goals as goal

pub split_seat-moved-requires : goal.split_seat-moved-requires
split_seat-moved-requires g c = (search rules, search rules, moves_of _ _ _ _ _ (ap (λ z. z.0) c.requires.back.1))

pub join_seat-requires : goal.join_seat-requires
join_seat-requires g c =
    (search rules, search rules, search rules, search rules, joins_of _ _ _ _ _ _ (front_of c.args.front.now.me.0) (back_of c.args.back.now.me.0) (ap (λ z. z.0) c.requires.front.1) (search rules))

pub load-found-requires : goal.load-found-requires
load-found-requires g c = (search rules, search rules, meets_both _ _ _ _ _ (front_of c.args.front.now.me.0) (back_of c.args.back.now.me.0) (search rules))
