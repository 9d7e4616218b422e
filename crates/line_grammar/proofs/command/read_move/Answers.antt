use Rattle.std.proofs.Common.{rules, ◌<◌, ◌^◌, decimal}
use Rattle.line_grammar.proofs.CommandLemmas.{none_move, none_amount}
use Rattle.line_grammar.proofs.command.read_move.Goals as goal

pub returns-in_err-to : goal.returns-in_err-to
returns-in_err-to c =
    let fits : c.in_ok-from.from < 2 ^ 32 = search rules in
    let none = c.in_err-to.ensures.none in
    rw c.from_residual-in_err-to.ensures (none_move _ _ _ fits c.in_ok-from.ensures.found (λ cell n cell_fits n_fits. none cell (decimal n) cell_fits))

pub returns-in_err-amount : goal.returns-in_err-amount
returns-in_err-amount c =
    let fits : c.in_ok-from.from < 2 ^ 32 = search rules in
    let to_fits : c.in_ok-to.to < 2 ^ 32 = search rules in
    rw c.from_residual-in_err-amount.ensures
    (none_move _ _ _ fits c.in_ok-from.ensures.found (none_amount _ _ _ to_fits c.in_ok-to.ensures.found c.in_err-amount.ensures))
