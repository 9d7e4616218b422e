use Rattle.world_reports.proofs.backup.copy_seen.Goals as goal

pub returns-clause-copied : goal.returns-clause-copied
returns-clause-copied g c = λ honest honest_files.
    record {
      copied = c.without_older-copied.result;
      reported = c.in_ok-reported.reported;
      written = g.T.Source.history c.write_files.new.into;
      verified = g.T.Source.history c.verify.new.folder;
      named = g.T.Source.history c.warn_of_failed.new.folder;
      without_older = c.without_older-copied.ensures;
      are_written = c.in_ok-files.ensures.written honest honest_files;
      is_verified = c.in_ok-reported.ensures.verified honest honest_files;
      failed = c.in_ok-warn_of_failed.ensures honest;
      printed = g.T.Source.history c.print.new.self;
      printed_is = cc (c.in_ok-print.ensures.printed honest, c.in_ok-warn_of_tries.ensures honest, c.in_ok-warn_of.ensures honest);
      guard_is = c.in_ok-copy_guard.ensures.put honest;
      ends = c.of_finding.ensures.ends;
    }
