use Rattle.line_grammar.specs.Command.{spelling, IsInBounds}
use Rattle.line_grammar.proofs.KeptLemmas.{kept_of-snoc, kept_is_read}
use Rattle.line_grammar.proofs.laws.kept_bytes.Goals as goal

pub returns-clause-next : goal.returns-clause-next
returns-clause-next c = kept_of-snoc

pub returns-clause-means : goal.returns-clause-means
returns-clause-means c = kept_is_read spelling IsInBounds c.command_length.ensures
