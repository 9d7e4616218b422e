use Rattle.workers.proofs.Loggings.{begins_of}
use Rattle.workers.proofs.log_writer.LogWriter.new.Goals as goal

pub invariant_of-result : goal.invariant_of-result
invariant_of-result g c =
    begins_of g.D.Disk c.args.from c.args.covers c.args.reported_down c.args.log
    c.of-opening.result.value c.in-Ok.ring c.in-Ok-new.answers c.args.tick
    c.requires.opened c.requires.unreported c.requires.most c.requires.ready c.requires.fits c.in-Ok.ensures c.in-Ok-new.ensures c.of-opening.ensures
