-- The text that a script writes.
use Rattle.std.specs.Prelude.{◌≡◌, ℕ, List, [], ◌∷◌, ◌++◌, Option, Some, None, ◌==◌, if◌then◌else◌}
use Rattle.std.specs.Prelude.{codes, length, take, ◌⊎◌}
use Rattle.world_actions.specs.declared.refusal.Refusal.{Refusal}
use Rattle.world_actions.specs.declared.refusal.Refusal.TheVariants.{BadLine, NoMemory, Device}
use Rattle.world_core.specs.declared.moves.Answer.TheVariants.{Refused}
use Rattle.byte_streams.specs.Front.{IsFront}
use Rattle.steps.specs.declared.line.Method.{Method}
use Rattle.steps.specs.declared.line.Line.{Line}
use Rattle.steps.specs.declared.line.Line.TheVariants.{Open}
use Rattle.steps.specs.Line.{LineMeans}
use Rattle.steps.specs.Text.{answer_text}
use Rattle.steps.specs.Played.{Played, Opens, Runs}

-- a core that a script opened: the method by which its words are captured, and how it was played
pub record Opened : Type 0 where
  pub method : Method
  pub played : Played

-- the method after a line: an opening chooses it
abbrev pub method_after : Method → Line → Method
method_after method (Open chosen cells) = chosen
method_after method line = method

-- a line that means nothing, and changes nothing
abbrev pub IsBadLine : Option Opened → List ℕ → Option Opened → Type 0
IsBadLine from text to = (to ≡ from) × (text ≡ answer_text (Refused BadLine))

-- the effect and the text of a line, if no core is open
abbrev pub RunsFirst : Line → List ℕ → Option Opened → Type 0
RunsFirst (Open method cells) text to =
    (next : Opened) × (to ≡ Some next) × (next.method ≡ method) × Opens cells next.played
    × (text ≡ codes "ready 0")
RunsFirst line text to = IsBadLine None text to

-- the effect of a line with this meaning, and its text without the newline; at first
-- no core is open
abbrev pub LineRuns : Option Line → Option Opened → List ℕ → Option Opened → Type 0
LineRuns None from text to = IsBadLine from text to
LineRuns (Some line) None text to = RunsFirst line text to
LineRuns (Some line) (Some from) text to =
    (next : Opened) × (to ≡ Some next) × (next.method ≡ method_after from.method line)
    × Runs line from.played text next.played

-- a byte at the front of the first line
abbrev pub onto_first : ℕ → List (List ℕ) → List (List ℕ)
onto_first b [] = (b ∷ []) ∷ []
onto_first b (line ∷ lines) = (b ∷ line) ∷ lines

-- the lines of an input: each ends with a newline, and a last one without it counts
-- if it isn't empty
abbrev pub lines_of : List ℕ → List (List ℕ)
lines_of [] = []
lines_of (b ∷ bytes) = if b == 10 then [] ∷ lines_of bytes else onto_first b (lines_of bytes)

-- the text that answers these lines, from one core to another: for each line the text of its
-- meaning, and a newline
abbrev pub Replies : Option Opened → List (List ℕ) → List ℕ → Option Opened → Type 0
Replies from [] text last = (text ≡ []) × (last ≡ from)
Replies from (line ∷ lines) text last =
    (meaning : Option Line) × (said : List ℕ) × (next : Option Opened) × (rest : List ℕ)
    × LineMeans line meaning × LineRuns meaning from said next × Replies next lines rest last
    × (text ≡ said ++ (10 ∷ rest))

-- the text of a script
pub record IsScriptText (input text : List ℕ) : Type 0 where
  pub last : Option Opened
  pub replies : Replies None (lines_of input) text last

-- the refusals that end a script
abbrev pub IsFault : Refusal → Type 0
IsFault refusal = (refusal ≡ NoMemory) ⊎ (refusal ≡ Device)

-- The output after a fault: whole answers to the lines before it, and then at most a front of the
-- next answer. If memory ran out, no part of the next answer is written.
pub record IsCutOff (input written : List ℕ) (refusal : Refusal) : Type 0 where
  pub answered : List (List ℕ)
  pub later : List (List ℕ)
  pub split : lines_of input ≡ answered ++ later
  pub core : Option Opened
  pub whole : List ℕ
  pub replies : Replies None answered whole core
  pub part : List ℕ
  pub are_written : written ≡ whole ++ part
  pub next : (part ≡ [])
      ⊎ ((text : List ℕ) × (last : Option Opened)
      × Replies core (take 1 later) text last × IsFront part text)
  pub in_memory : refusal ≡ NoMemory → part ≡ []

-- these answers, each with a newline after it
abbrev pub text_of : List (List ℕ) → List ℕ
text_of [] = []
text_of (answer ∷ answers) = answer ++ (10 ∷ text_of answers)

-- the text is answers, one for each line of the input
pub record AnswersEach (input text : List ℕ) : Type 0 where
  pub answers : List (List ℕ)
  pub one_each : length answers ≡ length (lines_of input)
  pub are_text : text ≡ text_of answers
