use Rattle.image_files.specs.Progress.{target_of}
use Rattle.restart.proofs.Calling.{image_calls_one, image_calls_none}
use Rattle.workers.proofs.Publishings.{publishes_none}
use Rattle.workers.proofs.Imagings.{faults_step, is_busy, stays_busy, step_on, runs_on, less_left, follows_on, follows_opened}
use Rattle.workers.proofs.checkpointer.round.step.Goals as goal

pub returns-in_default : goal.returns-in_default
returns-in_default g c =
    let e = c.step.ensures in
    let given = c.step.result in
    let old = c.args.images.now in
    let new = c.step.new.self in
    let back = c.args.back.now in
    let next = c.step.new.from in
    let not = c.in_default.not-Opened in
    let busy = is_busy old.keeper c.requires.left in
    record {
      step = step_on given old.keeper new back next not e.taken e.ended e.cells busy c.requires.step;
      fits = e.fits;
      faults = faults_step g.D.Disk.faults given old (record { keeper = new; image_a = c.step.new.image_a; image_b = c.step.new.image_b }) c.requires.left e.down e.cause;
      less = less_left given old.keeper new back next not e.idle e.down e.working c.requires.left c.requires.step;
      calls = image_calls_one g.D.Disk.called (target_of old.keeper.newest) old.keeper.phase old.image_a c.step.new.image_a old.image_b c.step.new.image_b e.calls;
      takes = λ is. image_calls_none g.D.Disk.called (target_of old.keeper.newest) old.keeper.phase old.image_a c.step.new.image_a old.image_b c.step.new.image_b is e.calls;
      runs = runs_on given old.keeper new back next not e.taken e.idle e.down e.goes_on busy c.requires.step;
      publishes = publishes_none c.args.tick new c.args.covers.now (stays_busy given old.keeper new not e.idle e.down e.goes_on busy);
      follows = λ opening f. follows_on g.D.Disk given opening old
          (record { keeper = new; image_a = c.step.new.image_a; image_b = c.step.new.image_b }) back next not e.taken e.ended e.idle e.down e.goes_on busy e.stands f;
    }

pub returns-clause-follows : goal.returns-clause-follows
returns-clause-follows g c opening f =
    let e = c.in-Opened.ensures in
    follows_opened g.D.Disk c.in-Opened.field-0 opening c.args.images.now
    (record { keeper = c.step.new.self; image_a = c.step.new.image_a; image_b = c.step.new.image_b }) c.args.back.now c.step.new.from c.finish.new.self
    e.taken e.ended e.all_taken (is_busy c.args.images.now.keeper c.requires.left) c.requires.step c.finish.ensures.done c.finish.ensures.same.1 e.stands f

pub returns-clause-calls : goal.returns-clause-calls
returns-clause-calls g c =
    let old = c.args.images.now in
    image_calls_one g.D.Disk.called (target_of old.keeper.newest) old.keeper.phase old.image_a c.step.new.image_a old.image_b c.step.new.image_b c.step.ensures.calls

pub returns-clause-takes : goal.returns-clause-takes
returns-clause-takes g c is =
    let old = c.args.images.now in
    image_calls_none g.D.Disk.called (target_of old.keeper.newest) old.keeper.phase old.image_a c.step.new.image_a old.image_b c.step.new.image_b is c.step.ensures.calls
