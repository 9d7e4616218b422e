use Rattle.recovery.proofs.Steps.{keeps_switch_begun, keeps_switched}
use Rattle.recovery.proofs.WholeEvents.{round_is_taken, round_is_opened, tick_is_written}
use Rattle.recovery.proofs.laws.whole_events_keep.Goals as goal

pub returns : goal.returns
returns c = record {
  taken = round_is_taken;
  opened = round_is_opened;
  written = tick_is_written;
  switch = λ first ticks acknowledged images logs tick queue. keeps_switch_begun first ticks acknowledged images logs tick queue;
  switched = λ first ticks acknowledged images logs tick queue. keeps_switched first ticks acknowledged images logs tick queue;
}
