use Rattle.shared_capture.proofs.Whole.{begun_met}
use Rattle.shared_capture.proofs.joined.begin_round.Goals as goal

pub returns-clause-joined : goal.returns-clause-joined
returns-clause-joined g c =
    (begun_met c.args.front.now c.args.back.now c.requires.joined c.mark_words.new.self c.meet.new.back c.meet.new.front
    c.meet.ensures.front c.requires.closed c.mark_words.ensures.same c.in-Ok.ensures.marked c.mark_words.ensures.cells c.meet.ensures.back c.meet.ensures.rounds c.meet.ensures.level).0

pub returns-clause-content : goal.returns-clause-content
returns-clause-content g c =
    (begun_met c.args.front.now c.args.back.now c.requires.joined c.mark_words.new.self c.meet.new.back c.meet.new.front
    c.meet.ensures.front c.requires.closed c.mark_words.ensures.same c.in-Ok.ensures.marked c.mark_words.ensures.cells c.meet.ensures.back c.meet.ensures.rounds c.meet.ensures.level).1
