use Rattle.std.proofs.Common.{if◌then◌else◌}
use Rattle.image_files.specs.Progress.{left_of}
use Rattle.workers.specs.declared.gate.Place.{Place}
use Rattle.workers.specs.Gates.{MayGo, MayStick}
use Rattle.workers.specs.Imaging.{KeepsBack, GoesOn}
use Rattle.workers.proofs.Rounding.{FilesAsk}
use Rattle.workers.proofs.checkpointer.Checkpointer.run_round.Given as goal

-- the round continues from where it was
abbrev pub invariant-loop-self : goal.invariant-loop-self
invariant-loop-self g l = record {
  keeps : KeepsBack l.fn.self l.self;
  goes : GoesOn ((place : Place) × MayGo g.G.Gate.answers place) ((place : Place) × MayStick g.G.Gate.answers place) g.D.Disk.faults l.fn.self l.self;
  files : FilesAsk g.G.Gate.answers l.fn.self.images l.self.images;
}

abbrev pub decreases-loop-self : goal.decreases-loop-self
decreases-loop-self g l = if l.self.over then 0 else left_of l.self.images.keeper
