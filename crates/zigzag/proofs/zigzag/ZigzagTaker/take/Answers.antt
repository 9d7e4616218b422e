use Rattle.std.proofs.Common.{sym, ◌∙◌}
use Rattle.zigzag.proofs.ArraysLemmas.{takes-word, takes-none}
use Rattle.zigzag.proofs.zigzag.ZigzagTaker.take.Goals as goal

pub returns-in_err-take_word-clause-took : goal.returns-in_err-take_word-clause-took
returns-in_err-take_word-clause-took c =
    rw (c.from_residual.ensures, c.in_err-take_word.ensures.unchanged) (takes-none c.args.self.now (sym c.in_err-take_word.was ∙ c.take_word.ensures.word))

pub returns-clause-took : goal.returns-clause-took
returns-clause-took c =
    rw c.in_ok-take_word.ensures.moved (takes-word c.args.self.now c.in_ok-take_word.field-0 (sym c.in_ok-take_word.was ∙ c.take_word.ensures.word))
