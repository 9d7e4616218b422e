use Rattle.workers.proofs.Loggings.{next_popped, lost}
use Rattle.workers.proofs.log_writer.LogWriter.try_lose.Goals as goal

pub lose-self-inside-requires-clause-next : goal.lose-self-inside-requires-clause-next
lose-self-inside-requires-clause-next g c = next_popped g.D.Disk _ c.self.invariant _ c.self.view_is c.requires.none c.in-Ok.item c.in-Ok.ensures.goes

pub invariant_of-self : goal.invariant_of-self
invariant_of-self g c =
    lost g.D.Disk _ c.self.invariant _ c.self.view_is c.requires.none c.in-Ok.item
    c.try_pop.new.self c.lose-self-inside.new.answers c.lose-self-inside.result
    c.requires.down c.in-Ok.ensures.popped c.in-Ok.ensures.goes c.lose-self-inside.ensures.answers
