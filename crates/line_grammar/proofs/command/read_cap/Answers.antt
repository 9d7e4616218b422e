use Rattle.std.proofs.Common.{rules, ◌<◌, ◌^◌}
use Rattle.line_grammar.proofs.CommandLemmas.{none_cap}
use Rattle.line_grammar.proofs.command.read_cap.Goals as goal

pub returns-in_err-value : goal.returns-in_err-value
returns-in_err-value c =
    let fits : c.in_ok-cell.cell < 2 ^ 32 = search rules in
    rw c.from_residual-in_err-value.ensures (none_cap _ _ _ fits c.in_ok-cell.ensures.found c.in_err-value.ensures)
