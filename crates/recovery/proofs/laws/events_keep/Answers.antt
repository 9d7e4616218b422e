use Rattle.recovery.proofs.Kept.{tick_ends, mark_is_made, image_step_keeps}
use Rattle.recovery.proofs.Steps.{log_step_keeps, cover_keeps, receipt_is_exact, cover_receipt_is_exact}
use Rattle.recovery.proofs.laws.events_keep.Goals as goal

pub returns : goal.returns
returns g c = record {
  tick_ends = tick_ends;
  mark = mark_is_made;
  image_step = image_step_keeps g.T.Taker.took;
  log_step = λ first ticks acknowledged images logs queue. log_step_keeps first ticks acknowledged images logs queue;
  cover = λ first ticks acknowledged images logs queue. cover_keeps first ticks acknowledged images logs queue;
  receipt = λ first ticks acknowledged images logs queue. receipt_is_exact first ticks acknowledged images logs queue;
  cover_receipt = λ first ticks acknowledged images logs queue. cover_receipt_is_exact first ticks acknowledged images logs queue;
}
