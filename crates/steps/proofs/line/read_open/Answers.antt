use Rattle.std.proofs.Common.{rules, arith, inl, inr, ◌<◌, ◌^◌}
use Rattle.steps.proofs.LineLemmas.{none_size}
use Rattle.steps.proofs.line.read_open.Goals as goal

pub returns-else-cells-ge1 : goal.returns-else-cells-ge1
returns-else-cells-ge1 c =
    let fits : c.in_ok-cells.cells < 2 ^ 32 = search rules in
    none_size _ _ c.in_ok-method.method _ c.in_ok-method.ensures.found fits c.in_ok-cells.ensures.1
    (λ low high. elim c.else-cells-ge1.either [ inl above ↦ let more = above.1 in omega (arith, more, high) | inr below ↦ omega (arith, below, low) ])
