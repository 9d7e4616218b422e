use Rattle.std.proofs.Common.{rules}
use Rattle.std.proofs.Common.{inr, refl, ap, ◌∙◌}
use Rattle.image_files.specs.Progress.{Progress}
use Rattle.restart.proofs.Stepped.{steps_content}
use Rattle.engine.proofs.Rounds.{cells_step, smaller_step, live_step}
use Rattle.engine.proofs.Runs.{image_step_at}
use Rattle.engine.proofs.engine.Engine.step_images.Goals as goal

pub invariant_of-self : goal.invariant_of-self
invariant_of-self g c =
    let e = c.step.ensures in
    let was = c.self.inside in
    let order = c.self.invariant.1 in (
      c.self.invariant.0,
      record {
        cells = search (rules, live_step);
        left = cells_step g.C.Capture.content g.C.Taker.took g.met.C.Capture.after_take c.step.result was.images c.step.new.self was.store
            c.step.new.from e.taken e.all_taken e.idle e.goes_on e.down e.ended e.cells (λ h. (e.rests h).0) order.left;
        images_fit = e.fits;
        log_fits = order.log_fits;
        queue_follows = order.queue_follows;
        queue_end = order.queue_end;
        within = order.within;
        most = order.most;
      },
    )

pub returns : goal.returns
returns g c =
    let D = g.D.Disk in
    let e = c.step.ensures in
    let was = c.self.inside in
    let content = g.C.Capture.content in
    let took = g.C.Taker.took in
    let after_take = g.met.C.Capture.after_take in
    record {
      steps = image_step_at D _ c.args.self.now c.step.result _ c.self.view_is (record {
        rest = refl;
        stands = λ sure images has.
            (let next = e.stands sure images has in
            (next.0, next.1, steps_content content took after_take was.images.cells images c.step.result next.0 was.store c.step.new.from next.2));
        cells = e.cells;
        live = live_step content took after_take c.step.result was.images c.step.new.self was.store c.step.new.from e.taken;
        idle = e.idle;
        down = e.down;
        stays_down = λ down. e.down.1 (ap (λ (k : Progress). k.phase) (e.rests (inr down)).0 ∙ down);
        goes_on = e.goes_on;
        ended = e.ended;
        cause = e.cause;
        calls = e.calls;
        lowers = λ some. smaller_step content took after_take c.step.result was.images c.step.new.self was.store c.step.new.from e.idle e.down e.working e.ended some c.self.invariant.1.left;
      });
    }
