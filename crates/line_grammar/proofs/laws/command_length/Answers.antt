use Rattle.line_grammar.proofs.CommandLemmas.{length-spelling}
use Rattle.line_grammar.proofs.laws.command_length.Goals as goal

pub returns : goal.returns
returns c = length-spelling
