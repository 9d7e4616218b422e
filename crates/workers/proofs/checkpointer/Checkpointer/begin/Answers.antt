use Rattle.std.proofs.Common.{◌≡◌, sym, subst, refl}
use Rattle.image_files.specs.Images.{with_round}
use Rattle.image_files.specs.Progress.{Progress}
use Rattle.image_files.specs.declared.phase.Phase.TheVariants.{Idle}
use Rattle.workers.specs.declared.checkpointer.round.ImageWriter.{ImageWriter}
use Rattle.workers.specs.Imaging.{Imaging, ImagesStand}
use Rattle.workers.proofs.Imagings.{Begins, fresh_looked, checkpointer_begins}
use Rattle.workers.proofs.checkpointer.Checkpointer.begin.Goals as goal

pub invariant_of-self-then-is_due : goal.invariant_of-self-then-is_due
invariant_of-self-then-is_due g c =
    let D = g.D.Disk in
    let inside = c.self.inside in
    let old = inside.images in
    let idle = subst (λ (p : Imaging g.row.D.Denot). p.images.keeper.phase ≡ Idle) (sym c.self.view_is) c.requires.idle in
    let due = c.is_due.ensures.due c.if-is_due.true in
    let begun : ImageWriter g.row.D.Denot = record { keeper = c.begin.new.self; image_a = old.image_a; image_b = old.image_b } in
    let begins : Begins D c.in-Some.tick old begun =
    λ images stood.
    subst (λ (k : Progress). ImagesStand D (record { keeper = k; image_a = old.image_a; image_b = old.image_b }) (with_round c.in-Some.tick images)) (sym c.begin.ensures.begun)
    (c.images_stay.ensures.begun old.keeper c.in-Some.tick images old.image_a old.image_b idle due.0 stood) in
    checkpointer_begins D
    (record { back = inside.back; covers = inside.covers; images = old; opening = inside.opening.value; over = inside.over }) c.in-Some.tick begun c.look.new.self c.self.invariant
    c.begin.ensures.begun refl refl idle c.look.ensures.same
    (fresh_looked c.in-Some.tick c.look.result inside.back c.look.new.self c.in-Some.is c.look.ensures.known (λ off. (c.in-Some.ensures.found off).0) (c.self.invariant.fresh idle))
    due.1 c.begin.ensures.fits begins
