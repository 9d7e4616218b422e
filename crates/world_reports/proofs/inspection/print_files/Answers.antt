use Rattle.world_reports.proofs.inspection.print_files.Goals as goal

pub returns : goal.returns
returns g c = record {
  printed = λ honest.
      let history = g.F.Source.history in
      record {
        lines = record { image_a = c.in_ok-file_line.field-0; image_b = c.in_ok-file_line-2.field-0; log_a = c.in_ok-file_line-3.field-0; log_b = c.in_ok-file_line-4.field-0 };
        image_a = c.in_ok-file_line.ensures;
        image_b = c.in_ok-file_line-2.ensures;
        log_a = c.in_ok-file_line-3.ensures;
        log_b = c.in_ok-file_line-4.ensures;
        printed = record {
          with_image_a = history c.print.new.self;
          with_image_b = history c.print-2.new.self;
          with_log_a = history c.print-3.new.self;
          image_a = c.in_ok-print.ensures.printed honest;
          image_b = c.in_ok-print-2.ensures.printed honest;
          log_a = c.in_ok-print-3.ensures.printed honest;
          log_b = c.in_ok-print-4.ensures.printed honest;
        };
      };
}
