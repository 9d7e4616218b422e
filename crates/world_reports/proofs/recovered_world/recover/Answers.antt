use Rattle.std.proofs.Common.{◌∙◌, ◌∷◌}
use Rattle.world_folder.specs.History.{Printed}
use Rattle.world_folder.specs.Texts.{recovered_line}
use Rattle.world_reports.proofs.recovered_world.recover.Goals as goal

pub returns-clause-reported : goal.returns-clause-reported
returns-clause-reported g c = λ honest honest_files. record {
  checks = c.in_ok-checks.checks;
  acts = g.F.Source.history c.checks_in.new.folder;
  named = c.in_ok-checks.ensures.named;
  guard_is = c.in_ok-checks.ensures.read honest;
  used = record {
    world = c.in_ok-seen.seen;
    looked = g.F.Source.history c.look_for_world.new.folder;
    acts = g.F.Source.history c.warn_of_failed.new.folder;
    is_seen = c.in_ok-seen.ensures.seen honest honest_files;
    failed = c.in_ok-warn_of_failed.ensures honest;
    printed = c.in_ok-print.ensures.printed honest
        ∙ (λ i. Printed (recovered_line (c.of.ensures i).tick (c.of.ensures i).from) ∷ c.in_ok-warn_of.ensures honest i);
    ends = c.of_finding.ensures.ends;
  };
}
