use Rattle.std.proofs.Common.{rules}
use Rattle.workers.proofs.Loggings.{no_work}
use Rattle.workers.proofs.log_writer.LogWriter.turn.Goals as goal

pub fill-requires-clause-none : goal.fill-requires-clause-none
fill-requires-clause-none g c = (no_work c.args.self.now.log.keeper c.args.self.now.ring.items (c.requires.rest.written (search rules)), c.requires.rest.answered)
