use Rattle.std.proofs.Common.{rules, ℕ, ◌≡◌, Option, Some, None, codes, ap, arith, slice_index}
use Rattle.std.specs.Prelude.{IfSome, IfNone}
use Rattle.clap.specs.declared.parser.matches.Found.{Found}
use Rattle.clap.specs.Words.{found_of, first_value}
use Rattle.worldd.specs.declared.invocation.Invocation.{Invocation}
use Rattle.worldd.specs.declared.invocation.Invocation.TheVariants.{Steps, Create, CreateOfWords, Recover, Inspect, Status, BackUp, Salvage}
use Rattle.worldd.specs.Invocation.{AsksForCells, AsksTo, HasCells}
use Rattle.worldd.specs.Values.{HasNumber}
use Rattle.worldd.proofs.invocation.creation_in.Goals as goal

-- with neither words nor a number of cells no world is to be made
no_creation : (found : Found) → first_value found (codes "words") ≡ None → ((cells : ℕ) → AsksForCells found cells → ⊥)
    → (invocation : Invocation) → AsksTo (codes "create") found invocation → ⊥
no_creation found no_words no_cells Steps asks = let first : 99 ≡ 115 = ap (λ name. slice_index name 0) asks in absurd (omega (arith, first))
no_creation found no_words no_cells (Create folder cells guards) asks = no_cells cells asks.3
no_creation found no_words no_cells (CreateOfWords folder words asked guards) asks = absurd cc
no_creation found no_words no_cells (Recover folder on_loss) asks = let first : 99 ≡ 114 = ap (λ name. slice_index name 0) asks.0 in absurd (omega (arith, first))
no_creation found no_words no_cells (Inspect folder words on_loss) asks = let first : 99 ≡ 105 = ap (λ name. slice_index name 0) asks.0 in absurd (omega (arith, first))
no_creation found no_words no_cells (Status folder on_loss checks) asks = let first : 99 ≡ 115 = ap (λ name. slice_index name 0) asks.0 in absurd (omega (arith, first))
no_creation found no_words no_cells (BackUp folder to on_loss) asks = let first : 99 ≡ 98 = ap (λ name. slice_index name 0) asks.0 in absurd (omega (arith, first))
no_creation found no_words no_cells (Salvage folder to) asks = let first : 99 ≡ 115 = ap (λ name. slice_index name 0) asks.0 in absurd (omega (arith, first))

pub returns-in_err-cells_of-in-None-clause-none : goal.returns-in_err-cells_of-in-None-clause-none
returns-in_err-cells_of-in-None-clause-none c =
    let none = no_creation (found_of c.args.given.now) (search rules) c.in_err-cells_of-in-None.ensures.none in
    search rules

-- the number of cells, or that there is none
has_cells : (found : Found) (asked : Option ℕ) → IfSome asked (HasNumber 32 found (codes "cells"))
    → IfNone asked ((cells : ℕ) → HasNumber 32 found (codes "cells") cells → ⊥) → HasCells found asked
has_cells found None some none = none
has_cells found (Some cells) some none = some

pub returns-in-Some-clause-some : goal.returns-in-Some-clause-some
returns-in-Some-clause-some c =
    let cells = has_cells (found_of c.args.given.now) c.number_of.result c.number_of.ensures.some c.number_of.ensures.none in
    search rules
