use Rattle.std.proofs.Common.{◌∙◌, ◌∷◌}
use Rattle.world_folder.specs.History.{Printed}
use Rattle.world_reports.specs.Inspection.{words_printed}
use Rattle.world_folder.specs.Texts.{recovered_text}
use Rattle.world_reports.proofs.inspection.inspect.Goals as goal

pub returns-clause-reported : goal.returns-clause-reported
returns-clause-reported g c = λ honest honest_files.
    let words = c.in_ok-found.found.world.words.items in
    record {
      checks = c.in_ok-checks.checks;
      acts = g.F.Source.history c.checks_in.new.folder;
      named = c.in_ok-checks.ensures.named;
      guard_is = c.in_ok-checks.ensures.read honest;
      used = record {
        seen = c.in_ok-seen.seen;
        looked = g.F.Source.history c.look_at_folder.new.folder;
        reported = g.F.Source.history c.print_files.new.folder;
        bytes = c.in_ok-found.field-0-0;
        found = c.in_ok-found.found.world;
        finding = c.in_ok-found.found.finding;
        named = g.F.Source.history c.warn_of_failed.new.folder;
        is_seen = c.in_ok-seen.ensures.seen honest honest_files;
        files = c.in_ok-print_files.ensures.printed honest;
        are_read = c.in_ok-found.ensures.read;
        stands = c.in_ok-found.ensures.found;
        judged = c.in_ok-found.ensures.judged;
        failed = c.in_ok-warn_of_failed.ensures honest;
        printed = c.in_ok-print_words.ensures.printed honest
            ∙ ((λ i. words_printed c.args.with_words words (c.in_ok-print.ensures.printed honest i))
            ∙ (λ i. words_printed c.args.with_words words
            (Printed (recovered_text (c.of.ensures.world i).tick (c.of.ensures.world i).from (c.of.ensures.slot i)) ∷ c.in_ok-warn_of.ensures honest i)));
        ends = c.of_finding.ensures.ends;
      };
    }
