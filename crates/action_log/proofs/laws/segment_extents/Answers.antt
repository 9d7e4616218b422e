use Rattle.action_log.proofs.ExtentLemmas.{ended_follows, past_reads, headless_reads, open_ends, cut_reads}
use Rattle.action_log.proofs.laws.segment_extents.Goals as goal

pub returns : goal.returns
returns c = record {
  ended = ended_follows;
  past = past_reads;
  headless = headless_reads;
  whole = λ bytes groups_end ticks ended base list x segment. open_ends bytes groups_end ticks ended x base list segment;
  cut = λ bytes groups_end ticks ended x behind ends long. cut_reads bytes groups_end ticks ended x behind ends long;
}
