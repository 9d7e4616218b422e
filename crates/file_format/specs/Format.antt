-- The mark of a file's format, in the number after its gate.
use Rattle.std.specs.Prelude.{ℕ, ◌+◌, ◌-◌, List, length, drop, Option, Some, None, nat_lt}
use Rattle.std.specs.Prelude.{if◌then◌else◌}
use Rattle.file_format.specs.declared.format.TheConstants.{MARK_PLACE, MARK_END, NUMBERS}
use Rattle.file_format.specs.declared.format.TheConstants.{SECOND_MARK}
use Rattle.file_format.specs.declared.format.Format.{Format}
use Rattle.file_format.specs.declared.format.Format.TheVariants.{First, Second}
use Rattle.file_format.specs.Number.{number_of}

-- a number with the mark of a format
abbrev pub marked_of : Format → ℕ → ℕ
marked_of First number = number
marked_of Second number = SECOND_MARK + number

-- the format and the number, from the number with its mark
abbrev pub unmarked : ℕ → Option (Format × ℕ)
unmarked marked =
    if nat_lt marked NUMBERS then Some (First, marked) else
    if nat_lt marked SECOND_MARK then None else
    if nat_lt marked (SECOND_MARK + NUMBERS) then Some (Second, marked - SECOND_MARK) else
    None

-- the format and the number after the gate of a file
abbrev pub marked_in : List ℕ → Option (Format × ℕ)
marked_in bytes = unmarked (number_of 8 (drop MARK_PLACE bytes))

-- only the format, of a file that is long enough
abbrev pub format_in : List ℕ → Option Format
format_in bytes = if nat_lt (length bytes) MARK_END then None else format_alone (marked_in bytes)
  where
    format_alone : Option (Format × ℕ) → Option Format
    format_alone None = None
    format_alone (Some (format, number)) = Some format
