use Rattle.std.specs.Prelude.{ℕ, ◌<◌, ◌^◌, List, ◌∷◌, ◌++◌, Option, decimal, codes, unsigned_abs}
use Rattle.std.specs.Fmt.{signed_decimal}
use Rattle.world_actions.specs.declared.action.Action.TheVariants.{Set, Add, Transfer, Swap, Cap}
use Rattle.line_grammar.specs.declared.command.Command.{Command}
use Rattle.line_grammar.specs.declared.command.Command.TheVariants.{Act, Get, End}
use Rattle.line_grammar.specs.Reading.{IsReading}

-- the one text of a command
abbrev pub spelling : Command → List ℕ
spelling (Act (Set cell value)) = codes "set " ++ (decimal cell ++ (32 ∷ decimal value))
spelling (Act (Add cell by)) = codes "add " ++ (decimal cell ++ (32 ∷ signed_decimal by))
spelling (Act (Transfer from to amount)) =
    codes "move " ++ (decimal from ++ (32 ∷ (decimal to ++ (32 ∷ decimal amount))))
spelling (Act (Swap a b)) = codes "swap " ++ (decimal a ++ (32 ∷ decimal b))
spelling (Act (Cap cell value)) = codes "cap " ++ (decimal cell ++ (32 ∷ decimal value))
spelling (Get cell) = codes "get " ++ decimal cell
spelling End = codes "end"

-- the numbers of a command are within the bounds of the grammar
abbrev pub IsInBounds : Command → Type 0
IsInBounds (Act (Set cell value)) = (cell < 2 ^ 32) × (value < 2 ^ 64)
IsInBounds (Act (Add cell by)) = (cell < 2 ^ 32) × (unsigned_abs by < 2 ^ 63)
IsInBounds (Act (Transfer from to amount)) = (from < 2 ^ 32) × (to < 2 ^ 32) × (amount < 2 ^ 64)
IsInBounds (Act (Swap a b)) = (a < 2 ^ 32) × (b < 2 ^ 32)
IsInBounds (Act (Cap cell value)) = (cell < 2 ^ 32) × (value < 2 ^ 64)
IsInBounds (Get cell) = cell < 2 ^ 32
IsInBounds End = Unit {0}

-- the meaning of a line: the command that it spells, or nothing if it spells none
abbrev pub Means : List ℕ → Option Command → Type 0
Means line meaning = IsReading spelling IsInBounds line meaning
