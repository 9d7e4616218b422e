use Rattle.std.proofs.Common.{rules, ◌<◌, ◌^◌}
use Rattle.line_grammar.proofs.CommandLemmas.{none_add}
use Rattle.line_grammar.proofs.command.read_add.Goals as goal

pub returns-in_err-by : goal.returns-in_err-by
returns-in_err-by c =
    let fits : c.in_ok-cell.cell < 2 ^ 32 = search rules in
    rw c.from_residual-in_err-by.ensures (none_add _ _ _ fits c.in_ok-cell.ensures.found c.in_err-by.ensures)
