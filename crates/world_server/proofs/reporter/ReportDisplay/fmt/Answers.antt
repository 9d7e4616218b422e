use Rattle.std.proofs.Common.{rules, append_assoc}
use Rattle.std.proofs.Output.{has_written_append, has_written_of_eq}
use Rattle.world_server.proofs.reporter.ReportDisplay.fmt.Goals as goal

pub returns-clause-writes : goal.returns-clause-writes
returns-clause-writes g c = λ plain ok.
    let first = c.write.ensures.writes plain (search rules) in
    has_written_of_eq _ _ _ _ _ (simp append_assoc) (has_written_append _ _ _ _ _ _ first (c.write-2.ensures.writes first.plain ok))
