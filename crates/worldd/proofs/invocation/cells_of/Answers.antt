use Rattle.std.proofs.Common.{rules, ℕ}
use Rattle.clap.specs.Words.{found_of}
use Rattle.worldd.specs.Invocation.{AsksForCells}
use Rattle.worldd.proofs.invocation.cells_of.Goals as goal

pub returns-in_err-cells-clause-none : goal.returns-in_err-cells-clause-none
returns-in_err-cells-clause-none c =
    let none : (cells : ℕ) → AsksForCells (found_of c.args.given.now) cells → ⊥ = λ cells asks. c.in_err-cells.ensures.none cells asks.0 in
    search rules
