use Rattle.world_reports.proofs.figures.print_figures.Goals as goal

pub returns-clause-reported : goal.returns-clause-reported
returns-clause-reported g c = λ honest honest_files. record {
  world = c.in_ok-seen.seen;
  figures = c.figures_of.result;
  looked = g.F.Source.history c.look_for_world.new.folder;
  acts = g.F.Source.history c.warn_of_failed.new.folder;
  is_seen = c.in_ok-seen.ensures.seen honest honest_files;
  failed = c.in_ok-warn_of_failed.ensures honest;
  are_figures = c.figures_of.ensures;
  printed = cc (c.in_ok-print_guard.ensures.printed honest, c.in_ok-print-2.ensures.printed honest, c.in_ok-print.ensures.printed honest, c.in_ok-warn_of.ensures honest);
  ends = c.of_finding.ensures.ends;
}
