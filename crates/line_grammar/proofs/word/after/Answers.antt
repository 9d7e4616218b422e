use Rattle.std.proofs.Common.{rules}
use Rattle.std.proofs.lemmas.Bool.Decides.{Decides-eqb}
use Rattle.std.proofs.lemmas.Slice.Eq.{strip_prefix_is}
use Rattle.line_grammar.proofs.word.after.Goals as goal

pub returns-clause-found : goal.returns-clause-found
returns-clause-found c =
    search (rules, strip_prefix_is Decides-eqb c.args.line.now c.args.word.now c.strip_prefix.result c.strip_prefix.ensures.cases)

pub returns-clause-none : goal.returns-clause-none
returns-clause-none c =
    search (rules, strip_prefix_is Decides-eqb c.args.line.now c.args.word.now c.strip_prefix.result c.strip_prefix.ensures.cases)
