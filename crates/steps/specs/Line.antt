-- The lines of a script: how each is spelled, and what a line means.
use Rattle.std.specs.Prelude.{ℕ, ◌+◌, ◌/◌, ◌%◌, ◌<◌, ◌≤◌, nat_lt, if◌then◌else◌, List, [], ◌∷◌}
use Rattle.std.specs.Prelude.{◌++◌, Option, decimal, codes}
use Rattle.world_actions.specs.declared.world.TheConstants.{CELLS}
use Rattle.line_grammar.specs.Reading.{IsReading}
use Rattle.line_grammar.specs.Command.{spelling, IsInBounds}
use Rattle.disk_model.specs.declared.leaving.Leaving.TheVariants.{Lose, Keep, Fill}
use Rattle.world_core.specs.declared.moves.Fate.TheVariants.{Done, Failed}
use Rattle.steps.specs.declared.line.Method.{Method}
use Rattle.steps.specs.declared.line.Method.TheVariants.{Plain, Zigzag, PingPong, ZigzagShared}
use Rattle.steps.specs.declared.line.Method.TheVariants.{PingPongShared}
use Rattle.steps.specs.declared.line.Line.{Line}
use Rattle.steps.specs.declared.line.Line.TheVariants.{Open, Command, Mark, Image, Log, Cover}
use Rattle.steps.specs.declared.line.Line.TheVariants.{Images, Logs, Crash, World}

-- the word of a method
abbrev pub method_word : Method → List ℕ
method_word Plain = codes "plain"
method_word Zigzag = codes "zigzag"
method_word PingPong = codes "pingpong"
method_word ZigzagShared = codes "zigzag-shared"
method_word PingPongShared = codes "pingpong-shared"

-- a digit of a byte: 0 to 9, a to f
abbrev pub hex_digit : ℕ → ℕ
hex_digit digit = if nat_lt digit 10 then 48 + digit else 87 + digit

-- a byte in two digits
abbrev pub hex_text : ℕ → List ℕ
hex_text byte = hex_digit (byte / 16) ∷ hex_digit (byte % 16) ∷ []

-- the one text of a script's line
abbrev pub line_spelling : Line → List ℕ
line_spelling (Open method cells) = codes "open " ++ (method_word method ++ (32 ∷ decimal cells))
line_spelling (Command command) = spelling command
line_spelling Mark = codes "mark"
line_spelling Image = codes "image"
line_spelling Log = codes "log"
line_spelling Cover = codes "cover"
line_spelling (Images Done) = codes "image*"
line_spelling (Images Failed) = codes "fail image"
line_spelling (Logs Done) = codes "log*"
line_spelling (Logs Failed) = codes "fail log"
line_spelling (Crash Lose) = codes "crash lose"
line_spelling (Crash Keep) = codes "crash keep"
line_spelling (Crash (Fill byte)) = codes "crash fill " ++ hex_text byte
line_spelling World = codes "world"

-- its numbers are within the bounds of the grammar
abbrev pub LineIsInBounds : Line → Type 0
LineIsInBounds (Open method cells) = (1 ≤ cells) × (cells ≤ CELLS)
LineIsInBounds (Command command) = IsInBounds command
LineIsInBounds (Crash (Fill byte)) = byte < 256
LineIsInBounds line = Unit {0}

-- the meaning of a line of a script: the one that it spells, or none if it spells nothing
abbrev pub LineMeans : List ℕ → Option Line → Type 0
LineMeans = IsReading line_spelling LineIsInBounds

-- a line that has no number and isn't a client's
abbrev pub IsWord : Line → Type 0
IsWord (Open method cells) = ⊥
IsWord (Command command) = ⊥
IsWord (Crash (Fill byte)) = ⊥
IsWord line = Unit {0}
