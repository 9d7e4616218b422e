use Rattle.std.proofs.Common.{ap, rules}
use Rattle.image_files.specs.Progress.{Progress}
use Rattle.image_files.proofs.BodyLemmas.{opened_down, opened_fits, opened_image}
use Rattle.image_files.proofs.keeper.ImageKeeper.finish.Goals as goal

pub returns-clause-ok : goal.returns-clause-ok
returns-clause-ok g c = search rules

pub returns-clause-opened : goal.returns-clause-opened
returns-clause-opened g c =
    let file = g.D.Disk.content c.args.target.now in
    let new = g.D.Disk.content c.sync.new.self in
    let after = g.D.Disk.may_leave c.sync.new.self in
    let same = c.in_default.ensures.content in
    record {
      fits = λ honest newest fits. rw (returns-clause-ok g c) (opened_fits c.args.self.now file newest c.requires.phase fits new (same honest));
      opened = λ honest newest fits.
          opened_image c.args.self.now file newest c.requires.phase fits new (same honest) after
          (c.in_default.ensures.durable honest) c.self.inside.tick (ap (λ (k : Progress). k.tick) c.self.view_is);
    }

pub returns-in-Err-clause-goes_on : goal.returns-in-Err-clause-goes_on
returns-in-Err-clause-goes_on g c =
    let after = g.D.Disk.may_leave c.sync.new.self in
    record {
      fits = search rules;
      done = search rules;
      endures = λ honest read newest fits stood.
          rw c.go_down.ensures (opened_down c.args.self.now (g.D.Disk.content c.args.target.now) newest c.requires.phase fits (g.D.Disk.content c.sync.new.self) (c.in-Err.ensures.content honest)
          (g.D.Disk.may_leave c.args.target.now) after (c.in-Err.ensures.crash honest) read stood);
    }
