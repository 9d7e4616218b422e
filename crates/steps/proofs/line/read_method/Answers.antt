use Rattle.std.proofs.Common.{rules}
use Rattle.steps.proofs.LineLemmas.{no_method}
use Rattle.steps.proofs.line.read_method.Goals as goal

pub returns-in_err-rest-clause-none : goal.returns-in_err-rest-clause-none
returns-in_err-rest-clause-none c =
    let none = no_method c.args.words.now c.in_default.ensures.none c.in_default-after.ensures.none c.in_default-after-2.ensures.none c.in_default-after-3.ensures.none c.in_err-rest.ensures.none in
    search rules
