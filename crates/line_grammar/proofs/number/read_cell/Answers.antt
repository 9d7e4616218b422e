use Rattle.std.proofs.Common.{◌<◌, ◌^◌, lit≤, decimal}
use Rattle.line_grammar.proofs.ReadingLemmas.{reading_converted}
use Rattle.line_grammar.proofs.NumberLemmas.{same_below}
use Rattle.line_grammar.proofs.number.read_cell.Goals as goal

pub returns : goal.returns
returns c =
    let read = c.in_ok-number.ensures in
    rw c.ok.ensures.value (reading_converted decimal (λ n. n < 2 ^ 32) _ _ c.try_from.result c.try_from.ensures read.1 (λ h. h)
    (λ n below is. same_below _ n (2 ^ 32) read.0 (lit≤ tt) below is))
