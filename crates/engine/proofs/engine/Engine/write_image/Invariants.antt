use Rattle.image_files.specs.Progress.{left_of}
use Rattle.engine.specs.Runs.{RunsImages}
use Rattle.engine.proofs.engine.Engine.write_image.Given as goal

-- the image keeper made steps
abbrev pub invariant-loop-self : goal.invariant-loop-self
invariant-loop-self g l = RunsImages g.D.Disk l.fn.self l.self

abbrev pub decreases-loop-self : goal.decreases-loop-self
decreases-loop-self g l = left_of l.self.images
