use Rattle.steps.proofs.LineLemmas.{kept_means}
use Rattle.steps.proofs.script.read_kept.Goals as goal

pub returns-clause-meaning : goal.returns-clause-meaning
returns-clause-meaning c = kept_means c.command_length.ensures _ _ c.read_line.ensures
