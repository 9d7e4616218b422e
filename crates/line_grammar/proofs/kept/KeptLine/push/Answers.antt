use Rattle.std.proofs.Common.{arith, ◌≡◌, ◌≤◌, length}
use Rattle.line_grammar.proofs.KeptLemmas.{keep_more, keep_same}
use Rattle.line_grammar.proofs.kept.KeptLine.push.Goals as goal

pub returns-then-len-le-LINE_BYTES : goal.returns-then-len-le-LINE_BYTES
returns-then-len-le-LINE_BYTES c =
    let short : length c.self.inside.bytes.items ≤ 80 = omega (arith, c.len.ensures, c.if-len-le-LINE_BYTES.true, c.self.inside.bytes.ok.0) in
    rw (c.push_reserved.ensures.items, ← c.self.view_is) (keep_more c.self.inside.bytes.items c.args.byte short)

pub returns-else-len-le-LINE_BYTES : goal.returns-else-len-le-LINE_BYTES
returns-else-len-le-LINE_BYTES c =
    let full : length c.self.inside.bytes.items ≡ 81 = omega (arith, c.len.ensures, c.if-len-le-LINE_BYTES.false, c.self.inside.bytes.ok.0, c.self.invariant) in
    rw (← c.self.view_is) (keep_same c.self.inside.bytes.items c.args.byte full)
