use Rattle.std.proofs.Common.{rules, arith, ◌≡◌}
use Rattle.std.specs.Str.{IsUtf8}
use Rattle.line_grammar.specs.Number.{StartsNumber}
use Rattle.line_grammar.proofs.NumberLemmas.{starts_decimal, reading_parsed, not_text}
use Rattle.line_grammar.proofs.number.read_number.Goals as goal

pub returns-then-not-starts_number : goal.returns-then-not-starts_number
returns-then-not-starts_number c = λ n h e.
    let starts : StartsNumber c.args.text.now = rw e (starts_decimal n h) in
    search (rules, c.starts_number.ensures)

pub returns-in_err-digits : goal.returns-in_err-digits
returns-in_err-digits c =
    let invalid : ¬ (IsUtf8 c.args.text.now) = grind (arith, c.from_utf8.ensures.cases, c.ok.ensures.variant, c.in_err-digits.was) in
    rw c.from_residual.ensures (not_text _ invalid)

pub returns : goal.returns
returns c =
    let starts : StartsNumber c.args.text.now = search (rules, c.starts_number.ensures) in
    let same : c.in_ok-digits.digits.now ≡ c.args.text.now = search (rules, c.from_utf8.ensures.cases, c.in_ok-digits.ensures) in
    rw c.ok-2.ensures.value (reading_parsed _ c.parse.result starts (rw same at c.parse.ensures.value.0))
