use Rattle.std.proofs.Common.{◌∙◌}
use Rattle.world_reports.specs.DroppedFiles.{dropped_of}
use Rattle.world_reports.specs.SalvagedWorld.{ending_after}
use Rattle.world_reports.proofs.salvaged_world.salvage_read.Goals as goal

pub returns-clause-salvaged : goal.returns-clause-salvaged
returns-clause-salvaged g c = λ honest_into honest_copies.
    record {
      files = c.in_ok-taken.taken;
      salvaged = c.in_ok-salvaged.salvaged;
      bytes = c.in_ok-bytes.bytes;
      reported = c.in_ok-reported.reported;
      taken = g.T.Source.history c.readable_in.new.into;
      written = g.T.Source.history c.write_files.new.into;
      verified = g.T.Source.history c.verify.new.folder;
      dropped = c.of-dropped.result.0;
      named = g.T.Source.history c.warn_of_each.new.into;
      failed = rw (← c.failed_of-failed.ensures) (c.in_ok-warn_of_each.ensures.named honest_into);
      are_taken = c.in_ok-taken.ensures.taken honest_into;
      is_salvaged = c.in_ok-salvaged.ensures.salvaged;
      are_written = rw (← c.in_ok-print_parts.ensures.printed honest_into) (c.in_ok-files.ensures.written honest_into honest_copies);
      is_verified = c.in_ok-reported.ensures.verified honest_into honest_copies;
      dropped_is = c.of-dropped.ensures ∙ (λ i. dropped_of (c.lost_of-lost.ensures i) c.in_ok-taken.taken c.in_ok-salvaged.salvaged);
      printed = cc (c.in_ok-print-2.ensures.printed honest_into, c.in_ok-print.ensures.printed honest_into, c.in_ok-warn_of.ensures honest_into, c.older_finding-older.ensures);
      ends = c.ending_after.ensures.ends ∙ (λ i. ending_after (c.older_finding-older.ensures i) c.of-dropped.result.0);
    }
