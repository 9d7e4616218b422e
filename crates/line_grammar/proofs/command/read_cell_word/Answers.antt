use Rattle.line_grammar.proofs.WordLemmas.{no_split, none_cell_word}
use Rattle.line_grammar.proofs.command.read_cell_word.Goals as goal

pub returns-in_err-word-clause-none : goal.returns-in_err-word-clause-none
returns-in_err-word-clause-none c = let none = c.in_err-word.ensures.none in
    rw c.from_residual.ensures (λ cell rest fits. no_split _ _ _ none)

pub returns-in_err-cell-clause-none : goal.returns-in_err-cell-clause-none
returns-in_err-cell-clause-none c =
    let found = c.in_ok-word.ensures.found in
    let first = c.in_ok-word.ensures.first in
    rw c.from_residual-in_err-cell.ensures (none_cell_word _ _ _ found first c.in_err-cell.ensures)
