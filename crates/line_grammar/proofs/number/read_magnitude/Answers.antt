use Rattle.std.proofs.Common.{arith, ◌<◌, ◌^◌, ◌≤ℤ◌, pos, unsigned_abs}
use Rattle.std.specs.Fmt.{signed_decimal}
use Rattle.std.proofs.lemmas.Int.{ints}
use Rattle.line_grammar.proofs.ReadingLemmas.{reading_converted}
use Rattle.line_grammar.proofs.NumberLemmas.{same_difference}
use Rattle.line_grammar.proofs.number.read_magnitude.Goals as goal

pub returns : goal.returns
returns c =
    let read = c.in_ok-number.ensures in
    rw c.ok.ensures.value (reading_converted signed_decimal (λ z. (pos 0 ≤ℤ z) × (unsigned_abs z < 2 ^ 63)) _ _ c.try_from.result c.try_from.ensures read.1
    (λ h. (omega (arith, ints), h.sfits)) (λ z bounds is. record { sfits = same_difference _ read.0 z bounds is }))
