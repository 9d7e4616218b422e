use Rattle.image_files.proofs.StandsLemmas.{kept_at_a, kept_at_b}
use Rattle.image_files.proofs.keeper.ImageKeeper.step.Goals as goal

pub returns-in-A-clause-stands : goal.returns-in-A-clause-stands
returns-in-A-clause-stands g c honest images stands =
    let e = c.step_by_phase.ensures in
    let old = c.args.self.now in
    let new = c.step_by_phase.new.self in
    let D = g.D.Disk in
    kept_at_a g.T.Taker.took g.D.Disk.honest honest c.step_by_phase.result old new c.args.from.now c.step_by_phase.new.from
    (D.content c.args.image_a.now) (D.content c.step_by_phase.new.target) (D.content c.args.image_b.now) (D.content c.step_by_phase.new.newest)
    (D.may_leave c.args.image_a.now) (D.may_leave c.step_by_phase.new.target) (D.may_leave c.args.image_b.now) (D.may_leave c.step_by_phase.new.newest) images
    c.in-A.ensures (assumption e) stands

pub returns-in-B-clause-stands : goal.returns-in-B-clause-stands
returns-in-B-clause-stands g c honest images stands =
    let e = c.step_by_phase-in-B.ensures in
    let old = c.args.self.now in
    let new = c.step_by_phase-in-B.new.self in
    let D = g.D.Disk in
    kept_at_b g.T.Taker.took g.D.Disk.honest honest c.step_by_phase-in-B.result old new c.args.from.now c.step_by_phase-in-B.new.from
    (D.content c.args.image_a.now) (D.content c.step_by_phase-in-B.new.newest) (D.content c.args.image_b.now) (D.content c.step_by_phase-in-B.new.target)
    (D.may_leave c.args.image_a.now) (D.may_leave c.step_by_phase-in-B.new.newest) (D.may_leave c.args.image_b.now) (D.may_leave c.step_by_phase-in-B.new.target) images
    c.in-B.ensures (assumption e) stands
