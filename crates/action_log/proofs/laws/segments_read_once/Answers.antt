use Rattle.action_log.proofs.ReadingLemmas.{spellings_apart, reads_once, each_reads}
use Rattle.action_log.proofs.laws.segments_read_once.Goals as goal

pub returns : goal.returns
returns c = record { apart = spellings_apart; once = reads_once; each = each_reads }
