use Rattle.std.proofs.Common.{rules}
use Rattle.std.proofs.Common.{length}
use Rattle.engine.proofs.Beginning.{begins_in_order}
use Rattle.engine.proofs.engine.Engine.begin.Goals as goal

pub invariant_of-result : goal.invariant_of-result
invariant_of-result g c =
    let D = g.D.Disk in
    let made = c.in-Ok.ensures in
    let shut = c.args.shut in
    let cells = length c.args.words.now in (
      made.ring,
      begins_in_order D (record { images = c.images_stay.ensures.fits; log = c.log_outcomes.ensures.made; queue = c.log_queues.ensures.begins })
          c.args.newest c.args.tick c.args.words.now shut c.args.files _ c.requires.some c.requires.few c.requires.numbered c.requires.gates c.requires.newest
          (search rules),
    )
