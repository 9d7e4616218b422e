use Rattle.std.proofs.Common.{rules, sym, subst, Some, None, Option, ◌≡◌}
use Rattle.capture_core.specs.declared.taker.Taken.{Taken}
use Rattle.capture_core.specs.Content.{Content, Takes}
use Rattle.shared_capture.specs.States.{BackState}
use Rattle.shared_capture.specs.Joined.{content_of}
use Rattle.shared_capture.proofs.Whole.{taken_met, takes_none}
use Rattle.shared_capture.proofs.joined.JoinedTaker.take.Goals as goal

pub returns-in_err-taken-clause-took : goal.returns-in_err-taken-clause-took
returns-in_err-taken-clause-took g c = let none = c.in_err-taken.ensures.none in
    let gone : Takes (content_of c.self.inside.front c.self.inside.back) None
    (content_of c.self.inside.front c.self.inside.back) = takes_none c.self.inside.front c.self.inside.back c.self.invariant none.1 in
    let was : Takes c.args.self.now None (content_of c.self.inside.front c.self.inside.back) = subst
    (λ (z : Content). Takes z None (content_of c.self.inside.front c.self.inside.back)) c.self.view_is gone in
    let now : Takes c.args.self.now None (content_of c.self.inside.front c.take.new.self) = subst (λ (z : BackState). Takes c.args.self.now None (content_of c.self.inside.front z)) (sym none.0) was in
    let is : c.from_residual.result ≡ None = search rules in
    subst (λ (z : Option Taken). Takes c.args.self.now z (content_of c.self.inside.front c.take.new.self)) (sym is) now

pub returns-clause-took : goal.returns-clause-took
returns-clause-took g c = let took = c.in_ok-taken.ensures in subst (λ (z : Content). Takes z (Some c.in_ok-taken.taken) (content_of c.meet.new.front c.meet.new.back)) c.self.view_is
    (taken_met c.self.inside.front c.self.inside.back c.self.invariant c.take.new.self c.meet.new.back c.in_ok-taken.taken
    c.meet.new.front c.meet.ensures.front took.some.0 took.some.1 (search rules) took.some.2 c.meet.ensures.back c.meet.ensures.rounds c.meet.ensures.level).1
