use Rattle.world_reports.proofs.backup.back_up.Goals as goal

pub returns-in-Ok-clause-backed_up : goal.returns-in-Ok-clause-backed_up
returns-in-Ok-clause-backed_up g c = λ honest honest_files honest_into honest_copies.
    record {
      checks = c.in_ok-checks.checks;
      acts = g.F.Source.history c.checks_in.new.folder;
      named = c.in_ok-checks.ensures.named;
      guard_is = c.in_ok-checks.ensures.read honest;
      used = record {
        world = c.in_ok-seen.seen;
        room = g.T.Source.history c.look_for_room.new.into;
        is_seen = c.in_ok-seen.ensures.seen honest honest_files;
        is_room = cc (c.in_ok-look_for_room.ensures.room honest_into);
        copy = c.in-Ok.ensures.copied honest_into honest_copies;
      };
    }
