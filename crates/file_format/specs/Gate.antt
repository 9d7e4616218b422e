-- The gate of a file: its first byte.
use Rattle.std.specs.Prelude.{◌≡◌, ◌≢◌, ◌<◌, ◌⊎◌, List, ℕ, length, get_or}
use Rattle.file_format.specs.declared.gate.TheConstants.{OPEN_GATE, CLOSED_GATE}

-- the gate is there, and isn't open
abbrev pub HasShutGate : List ℕ → Type 0
HasShutGate file = (0 < length file) × (get_or file 0 0 ≢ OPEN_GATE)

-- the gate is closed, as closing writes it
abbrev pub HasClosedGate : List ℕ → Type 0
HasClosedGate file = (0 < length file) × (get_or file 0 0 ≡ CLOSED_GATE)

-- the gate is open
abbrev pub HasOpenGate : List ℕ → Type 0
HasOpenGate file = get_or file 0 0 ≡ OPEN_GATE

-- there is no gate, or it is open
abbrev pub HasNoShutGate : List ℕ → Type 0
HasNoShutGate file = (length file ≡ 0) ⊎ HasOpenGate file
