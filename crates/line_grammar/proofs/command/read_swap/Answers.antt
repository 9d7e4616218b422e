use Rattle.std.proofs.Common.{rules, ◌<◌, ◌^◌}
use Rattle.line_grammar.proofs.CommandLemmas.{none_swap}
use Rattle.line_grammar.proofs.command.read_swap.Goals as goal

pub returns-in_err-b : goal.returns-in_err-b
returns-in_err-b c =
    let fits : c.in_ok-a.a < 2 ^ 32 = search rules in
    rw c.from_residual-in_err-b.ensures (none_swap _ _ _ fits c.in_ok-a.ensures.found c.in_err-b.ensures)
