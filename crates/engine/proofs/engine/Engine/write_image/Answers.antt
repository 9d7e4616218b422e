use Rattle.std.proofs.Common.{◌<◌, arith}
use Rattle.image_files.specs.Progress.{left_of}
use Rattle.engine.proofs.Rounds.{none_left}
use Rattle.engine.proofs.Runs.{image_then}
use Rattle.engine.proofs.engine.Engine.write_image.Goals as goal

pub loop-self-preserved : goal.loop-self-preserved
loop-self-preserved g c =
    let D = g.D.Disk in
    let some : 0 < left_of c.loop-self.self.images = omega (arith, c.images_left.ensures, c.loop-self-test.true) in
    image_then D c.event_laws.ensures g.met.D.Disk.keeps_byte c.args.self.now c.loop-self.self c.step_images.result c.step_images.new.self some c.loop-self.invariant c.step_images.ensures.steps

pub loop-self-smaller : goal.loop-self-smaller
loop-self-smaller g c = c.step_images.ensures.steps.lowers (omega (arith, c.images_left.ensures, c.loop-self-test.true))

pub returns-clause-over : goal.returns-clause-over
returns-clause-over g c = none_left c.loop-self.self.images (omega (arith, c.images_left.ensures, c.loop-self-test.false))
