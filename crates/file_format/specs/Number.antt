-- Bytes, and numbers as bytes with the lowest first.
use Rattle.std.specs.Prelude.{◌<◌, List, ℕ, get_or}
use Rattle.byteorder.specs.Endian.{little_bytes, little_number}

-- each item is below 256
abbrev pub IsBytes : List ℕ → Type 0
IsBytes bytes = (i : ℕ) → get_or bytes i 0 < 256

-- the lowest bytes of a number, as many as the width
unfoldable pub number_bytes : ℕ → ℕ → List ℕ
number_bytes width number = little_bytes width number

-- the number in the first bytes, as many as the width
unfoldable pub number_of : ℕ → List ℕ → ℕ
number_of width bytes = little_number width bytes
