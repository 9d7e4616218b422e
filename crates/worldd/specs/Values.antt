-- The values that a parse of the command line found, by their names.
use Rattle.std.specs.Prelude.{◌≡◌, ◌≢◌, ◌<◌, ◌^◌, ℕ, List, Some, None, Bool, true, false, codes}
use Rattle.std.specs.Str.Parse.{IsNumeral, digits_value, without_leading_plus}
use Rattle.clap.specs.declared.parser.matches.Found.{Found}
use Rattle.clap.specs.Words.{first_value, one_text}
use Rattle.world_folder.specs.declared.exit.Statuses.{Statuses}
use Rattle.world_folder.specs.declared.exit.Statuses.TheVariants.{Plain, Detailed}
use Rattle.world_folder.specs.declared.lost.OnLoss.{OnLoss}
use Rattle.world_folder.specs.declared.lost.OnLoss.TheVariants.{Warn, Refuse}

-- the value of this name is a number of so many bits; a plus may stand in front of its digits
abbrev pub HasNumber : (bits : ℕ) → Found → (name : List ℕ) → (number : ℕ) → Type 0
HasNumber bits found name number =
    (text : List ℕ) × (one_text found name ≡ Some text) × IsNumeral 10 (without_leading_plus text)
    × (digits_value 10 (without_leading_plus text) < 2 ^ bits)
    × (number ≡ digits_value 10 (without_leading_plus text))

-- whether the flag of this name was given
abbrev pub HasFlag : Found → (name : List ℕ) → (flag : Bool) → Type 0
HasFlag found name flag = (one_text found name ≡ Some (codes "true") → flag ≡ true)
    × (one_text found name ≡ Some (codes "false") → flag ≡ false)
    × (one_text found name ≡ None → flag ≡ false)

-- whether a loss is refused
abbrev pub refuses : OnLoss → Bool
refuses Warn = false
refuses Refuse = true

-- the values ask for these exit statuses
abbrev pub AsksForStatuses : Found → Statuses → Type 0
AsksForStatuses found Plain = first_value found (codes "statuses") ≢ Some (codes "detailed")
AsksForStatuses found Detailed = first_value found (codes "statuses") ≡ Some (codes "detailed")
