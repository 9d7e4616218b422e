use Rattle.world_ticks.proofs.PerformsLemmas.{performs_read}
use Rattle.world_ticks.proofs.play.word_or_zero.Goals as goal

pub returns-then-i-len-clause-reads : goal.returns-then-i-len-clause-reads
returns-then-i-len-clause-reads g c = performs_read _ _ _ _ c.read.ensures.access
