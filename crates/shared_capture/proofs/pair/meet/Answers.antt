use Rattle.std.proofs.Common.{rules, refl}
use Rattle.shared_capture.specs.Steps.{front_of, back_of}
use Rattle.shared_capture.specs.Meeting.{after_meet, front_met}
use Rattle.shared_capture.proofs.Backs.{back_met, met_rounds}
use Rattle.shared_capture.proofs.pair.meet.Goals as goal

pub invariant_of-back : goal.invariant_of-back
invariant_of-back g c =
    back_met _ _ _ _ _ _ _ _ _ _ c.back.invariant c.meet-found.result (search rules) c.known_tick-back-inside.result c.known_tick-back-inside.ensures.found c.known_tick-back-inside.ensures.known

pub returns-clause-rounds : goal.returns-clause-rounds
returns-clause-rounds g c = met_rounds _ _ _ c.meet-found.new.back _ _ _ _ _
    (back_met _ _ _ _ c.meet-found.new.back _ _ _ _ _ c.back.invariant c.meet-found.result (search rules)
    c.known_tick-back-inside.result c.known_tick-back-inside.ensures.found c.known_tick-back-inside.ensures.known)
    _ (after_meet c.meet-found.result (back_of c.back.inside.seat.me.0)) c.meet-found.ensures.back c.meet-found.result
    (front_of c.front.inside.seat.me.0) (front_met c.meet-found.result (front_of c.front.inside.seat.me.0)) _ c.meet-found.new.front c.meet-found.ensures.met c.meet-found.ensures.front refl
