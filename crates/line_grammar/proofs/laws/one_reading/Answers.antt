use Rattle.line_grammar.proofs.CommandLemmas.{meaning_exists, meaning_unique}
use Rattle.line_grammar.proofs.laws.one_reading.Goals as goal

pub returns-clause-some : goal.returns-clause-some
returns-clause-some c = meaning_exists

pub returns-clause-unique : goal.returns-clause-unique
returns-clause-unique c = meaning_unique
