use Rattle.std.proofs.Common.{◌≡◌, ◌<◌, ◌∙◌, inl, inr, Some, sym, subst, refl}
use Rattle.image_files.specs.declared.phase.Phase.TheVariants.{Taking}
use Rattle.image_files.specs.Progress.{left_of}
use Rattle.shared_capture.specs.States.{BackState}
use Rattle.workers.specs.Gates.{MayGo, MayStick}
use Rattle.workers.specs.Imaging.{Imaging, place_of, RoundRuns, GoesOn, FollowsRounds}
use Rattle.workers.proofs.Imagings.{is_busy}
use Rattle.workers.proofs.Publishings.{checkpointer_steps}
use Rattle.workers.proofs.checkpointer.Checkpointer.step.Goals as goal

pub invariant_of-self-2 : goal.invariant_of-self-2
invariant_of-self-2 g c =
    let D = g.D.Disk in
    let inside = c.self.inside in
    let left = subst (λ (p : Imaging g.row.D.Denot). 0 < left_of p.images.keeper) (sym c.self.view_is) c.requires.left in
    let busy = is_busy inside.images.keeper left in
    let known = c.look.ensures.known (c.self.invariant.step.round busy).working in
    let same : Some inside.back.now.tick ≡ Some c.in-Some.number = sym known.0 ∙ c.in-Some.is in
    let tick : inside.back.now.tick ≡ c.in-Some.number = cc in
    let e = c.step.ensures in
    checkpointer_steps D g.met.D.Disk.keeps_byte
    (record { back = inside.back; covers = inside.covers; images = inside.images; opening = inside.opening.value; over = inside.over }) c.in-Some.number c.look.new.self
    (record { back = c.step.new.back; covers = c.step.new.covers; images = c.step.new.images; opening = inside.opening.value; over = c.is_down-self-inside.result })
    c.self.invariant busy known.1 tick refl e.step e.fits
    (e.follows inside.opening.value (subst (λ (b : BackState). FollowsRounds D inside.opening.value inside.images b) (sym known.1) c.self.invariant.follows))
    e.runs e.publishes e.calls

pub returns-clause-goes : goal.returns-clause-goes
returns-clause-goes g c =
    let reported = g.G.Gate.answers in
    let inside = c.self.inside in
    let left = subst (λ (p : Imaging g.row.D.Denot). 0 < left_of p.images.keeper) (sym c.self.view_is) c.requires.left in
    let busy = is_busy inside.images.keeper left in
    let known = c.look.ensures.known (c.self.invariant.step.round busy).working in
    let down = c.is_down-self-inside.ensures in
    subst (λ (p : Imaging g.row.D.Denot). GoesOn (MayGo reported (place_of p.images.keeper.phase)) (MayStick reported (place_of p.images.keeper.phase)) g.D.Disk.faults p
    (record { back = c.step.new.back; covers = c.step.new.covers; images = c.step.new.images; opening = inside.opening.value; over = c.is_down-self-inside.result })) c.self.view_is
    (record {
      runs = subst (λ (b : BackState). RoundRuns b c.step.new.images.keeper c.step.new.back) known.1 c.step.ensures.runs;
      failures = c.step.ensures.faults;
      asks = inr (subst (MayGo reported) c.next_place.ensures (c.if-not-passes.ensures.goes refl));
      over = λ over. (λ idle. absurd (let fell = down.0 over in cc), inl (down.0 over));
      up = λ up fell. absurd (let over = down.1 fell in cc);
    })

pub returns-clause-takes : goal.returns-clause-takes
returns-clause-takes g c = λ is.
    let at = subst (λ (p : Imaging g.row.D.Denot). p.images.keeper.phase ≡ Taking) (sym c.self.view_is) is in
    subst (λ (p : Imaging g.row.D.Denot). (c.step.new.images.image_a ≡ p.images.image_a) × (c.step.new.images.image_b ≡ p.images.image_b)) c.self.view_is (c.step.ensures.takes at)
