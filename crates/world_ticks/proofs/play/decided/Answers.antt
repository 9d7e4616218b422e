use Rattle.world_ticks.proofs.PerformsLemmas.{performs_then}
use Rattle.world_ticks.proofs.play.decided.Goals as goal

pub returns-clause-reads : goal.returns-clause-reads
returns-clause-reads g c = performs_then c.word_or_zero-first.ensures.reads c.word_or_zero-second.ensures.reads
