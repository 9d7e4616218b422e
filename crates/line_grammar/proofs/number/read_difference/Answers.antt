use Rattle.std.proofs.Common.{arith, ◌≡◌, pos}
use Rattle.std.proofs.lemmas.Int.{ints}
use Rattle.line_grammar.proofs.NumberLemmas.{none_negative, only_zero}
use Rattle.line_grammar.proofs.number.read_difference.Goals as goal

pub returns-in_err-magnitude : goal.returns-in_err-magnitude
returns-in_err-magnitude c =
    let none = c.in_err-magnitude.ensures in
    rw c.from_residual.ensures
    (none_negative _ _ c.in-Some.ensures.found (λ n some fits. none (pos n) (omega (arith, ints), fits)))

pub returns-then-magnitude-eq0 : goal.returns-then-magnitude-eq0
returns-then-magnitude-eq0 c =
    let found = c.in_ok-magnitude.ensures in
    let zero : c.in_ok-magnitude.magnitude ≡ pos 0 = omega (arith, ints, c.if-magnitude-eq0.true, found.0) in
    none_negative _ _ c.in-Some.ensures.found (only_zero _ (rw zero at found.1))
