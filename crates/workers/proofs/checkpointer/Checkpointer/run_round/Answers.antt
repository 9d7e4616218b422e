use Rattle.std.proofs.Common.{rules, ◌≡◌, ◌<◌, inl, false, refl}
use Rattle.image_files.specs.Progress.{left_of}
use Rattle.workers.specs.declared.gate.Place.{Place}
use Rattle.workers.specs.Gates.{MayGo, MayStick}
use Rattle.workers.specs.Imaging.{place_of}
use Rattle.workers.proofs.Rounding.{goes_none, goes_then, goes_at, files_ask, files_then, keeps_then}
use Rattle.workers.proofs.checkpointer.Checkpointer.run_round.Goals as goal

pub loop-self-init : goal.loop-self-init
loop-self-init g c = record {
  keeps = record { pair = refl; cells = refl; word = refl; opening = refl };
  goes =
      goes_none g.D.Disk.faults ((place : Place) × MayGo g.G.Gate.answers place)
      ((place : Place) × MayStick g.G.Gate.answers place) c.args.self.now c.requires.round.0 c.requires.round.1 c.requires.round.2 c.requires.goes_on;
  files = inl (refl, refl);
}

pub loop-self-preserved : goal.loop-self-preserved
loop-self-preserved g c =
    let reported = g.G.Gate.answers in
    let known = c.loop-self.invariant in
    let first = c.args.self.now in
    let mid = c.loop-self.self in
    let new = c.step.new.self in
    let place = place_of mid.images.keeper.phase in
    let e = c.step.ensures in
    let going : mid.over ≡ false = search rules in
    let left : 0 < left_of mid.images.keeper = search rules in
    record {
      keeps = keeps_then first mid new known.keeps e.keeps;
      goes = goes_then g.D.Disk.faults ((at : Place) × MayGo reported at) ((at : Place) × MayStick reported at) first mid new going left known.goes
          (goes_at g.D.Disk.faults (MayGo reported place) (MayStick reported place) ((at : Place) × MayGo reported at)
          ((at : Place) × MayStick reported at) mid new (λ go. (place, go)) (λ stuck. (place, stuck)) e.goes);
      files = files_then reported first.images mid.images new.images known.files (files_ask reported mid.images.keeper.phase mid.images new.images e.goes.asks e.takes);
    }
