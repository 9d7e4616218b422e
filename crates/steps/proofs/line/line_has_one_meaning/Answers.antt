use Rattle.steps.proofs.LineLemmas.{line_meaning_unique}
use Rattle.steps.proofs.line.line_has_one_meaning.Goals as goal

pub returns : goal.returns
returns c = line_meaning_unique c.one_reading.ensures.unique
