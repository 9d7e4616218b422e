use Rattle.std.proofs.Common.{refl}
use Rattle.world_reports.proofs.copy.verify.Goals as goal

pub returns-clause-verified : goal.returns-clause-verified
returns-clause-verified g c = λ honest honest_files.
    record {
      read = c.read_folder-read.result;
      bytes = c.in_ok-found.field-0-0;
      found = c.in_ok-found.found.world;
      read_in = c.read_folder-read.ensures honest honest_files;
      are_read = c.in_ok-found.ensures.read;
      stands = c.in_ok-found.ensures.found;
      same = c.if-not-is_same.ensures.same refl;
      reported_is = c.of-2.ensures;
    }
