use Rattle.std.proofs.Common.{List, ℕ, subst}
use Rattle.world_reports.specs.Figures.{IsOpened}
use Rattle.world_reports.proofs.figures.figures_of.Goals as goal

pub returns : goal.returns
returns c = record {
  tick = λ i. (c.of.ensures.world i).tick;
  image = λ i. (c.of.ensures.world i).from;
  slot = c.of.ensures.slot;
  log_a = c.opened_segment.result;
  log_b = c.opened_segment-2.result;
  opened_a = subst (λ (l : List ℕ). IsOpened l c.opened_segment.result) c.deref.ensures.value c.opened_segment.ensures;
  opened_b = subst (λ (l : List ℕ). IsOpened l c.opened_segment-2.result) c.deref-2.ensures.value c.opened_segment-2.ensures;
  segment = c.current_segment.ensures;
}
