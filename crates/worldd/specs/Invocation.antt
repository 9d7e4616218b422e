-- The work that a command line asks for.
use Rattle.std.specs.Prelude.{◌≡◌, ◌≤◌, ℕ, List, Option, Some, None, option_map, codes}
use Rattle.clap.specs.declared.parser.matches.ArgMatches.{ArgMatches}
use Rattle.clap.specs.declared.parser.matches.Found.{Found}
use Rattle.clap.specs.Words.{first_value, rows_of, subcommand_name_of, subcommand_rows_of}
use Rattle.world_actions.specs.declared.world.TheConstants.{CELLS}
use Rattle.worldd.specs.declared.invocation.Invocation.{Invocation}
use Rattle.worldd.specs.declared.invocation.Invocation.TheVariants.{Steps, Create, CreateOfWords}
use Rattle.worldd.specs.declared.invocation.Invocation.TheVariants.{Recover, Inspect, Status}
use Rattle.worldd.specs.declared.invocation.Invocation.TheVariants.{BackUp, Salvage}
use Rattle.worldd.specs.Values.{HasFlag, HasNumber, refuses}

-- the words are of this command, and these are its values
abbrev pub IsCommand : ArgMatches → (name : List ℕ) → Found → Type 0
IsCommand matches name found = (subcommand_name_of matches ≡ Some name)
    × (option_map (λ p. p.1) (subcommand_rows_of matches) ≡ Some (rows_of found))

-- a world may have so many cells
abbrev pub IsWorldSize : (cells : ℕ) → Type 0
IsWorldSize cells = (1 ≤ cells) × (cells ≤ CELLS)

-- a world that is to be made may have its cells
abbrev pub IsPossible : Invocation → Type 0
IsPossible (Create folder cells guards) = IsWorldSize cells
IsPossible invocation = Unit {0}

-- the values ask for so many cells, of which a world may have so many
abbrev pub AsksForCells : Found → (cells : ℕ) → Type 0
AsksForCells found cells = HasNumber 32 found (codes "cells") cells × IsWorldSize cells

-- the number of cells that the values ask for, if they ask for one
abbrev pub HasCells : Found → Option ℕ → Type 0
HasCells found (Some cells) = HasNumber 32 found (codes "cells") cells
HasCells found None = (cells : ℕ) → ¬ HasNumber 32 found (codes "cells") cells

-- the command of this name with these values asks for this
abbrev pub AsksTo : (name : List ℕ) → Found → Invocation → Type 0
AsksTo name found Steps = name ≡ codes "steps"
AsksTo name found (Create folder cells guards) =
    (name ≡ codes "create") × (first_value found (codes "dir") ≡ Some folder.now)
    × (first_value found (codes "words") ≡ None) × AsksForCells found cells
    × HasFlag found (codes "guard") guards
AsksTo name found (CreateOfWords folder words asked guards) =
    (name ≡ codes "create") × (first_value found (codes "dir") ≡ Some folder.now)
    × (first_value found (codes "words") ≡ Some words.now) × HasCells found asked
    × HasFlag found (codes "guard") guards
AsksTo name found (Recover folder on_loss) =
    (name ≡ codes "recover") × (first_value found (codes "dir") ≡ Some folder.now)
    × HasFlag found (codes "refuse-losses") (refuses on_loss)
AsksTo name found (Inspect folder words on_loss) =
    (name ≡ codes "inspect") × (first_value found (codes "dir") ≡ Some folder.now)
    × HasFlag found (codes "words") words
    × HasFlag found (codes "refuse-losses") (refuses on_loss)
AsksTo name found (Status folder on_loss checks) =
    (name ≡ codes "status") × (first_value found (codes "dir") ≡ Some folder.now)
    × HasFlag found (codes "refuse-losses") (refuses on_loss)
    × HasFlag found (codes "check") checks
AsksTo name found (BackUp folder to on_loss) =
    (name ≡ codes "backup") × (first_value found (codes "dir") ≡ Some folder.now)
    × (first_value found (codes "to") ≡ Some to.now)
    × HasFlag found (codes "refuse-losses") (refuses on_loss)
AsksTo name found (Salvage folder to) =
    (name ≡ codes "salvage") × (first_value found (codes "dir") ≡ Some folder.now)
    × (first_value found (codes "to") ≡ Some to.now)
