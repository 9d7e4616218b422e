-- The requests of a client's lines, and how the lines form batches.
use Rattle.std.specs.Prelude.{ℕ, List, [], ◌∷◌, Option, Some, None, ◌==◌, if◌then◌else◌}
use Rattle.line_grammar.specs.declared.command.Command.{Command}
use Rattle.line_grammar.specs.declared.command.Command.TheVariants as command
use Rattle.line_grammar.specs.Command.{Means}
use Rattle.batches.specs.declared.batch.Request.{Request}
use Rattle.batches.specs.declared.batch.Request.TheVariants.{Act, Get, Bad}

-- the requests of a batch in order, and for how many more it has memory
pub record Requests : Type 0 where
  pub list : List Request
  pub room : ℕ

-- the request of a line with this meaning; the `end` of a batch has none
abbrev pub request_of : Option Command → Option Request
request_of None = Some Bad
request_of (Some (command.Act action)) = Some (Act action)
request_of (Some (command.Get cell)) = Some (Get cell)
request_of (Some command.End) = None

-- ---- the lines of an input

-- a byte at the front of the first line, if there is one
abbrev pub onto_line : ℕ → List (List ℕ) → List (List ℕ)
onto_line b [] = []
onto_line b (line ∷ lines) = (b ∷ line) ∷ lines

-- the lines that end with a newline
abbrev pub ended_lines : List ℕ → List (List ℕ)
ended_lines [] = []
ended_lines (b ∷ bytes) =
    if b == 10 then [] ∷ ended_lines bytes else onto_line b (ended_lines bytes)

-- each line means this
abbrev pub MeanAll : List (List ℕ) → List (Option Command) → Type 0
MeanAll [] [] = Unit {0}
MeanAll [] (meaning ∷ meanings) = ⊥
MeanAll (line ∷ lines) [] = ⊥
MeanAll (line ∷ lines) (meaning ∷ meanings) = Means line meaning × MeanAll lines meanings

-- ---- the batches of lines

-- the requests of each batch that has its `end`, and those after the last `end`
pub record Batches : Type 0 where
  pub ended : List (List Request)
  pub rest : List Request

-- a request at the front of the first batch
abbrev pub onto_first : Request → List (List Request) → List Request → Batches
onto_first request [] rest = record { ended = []; rest = request ∷ rest }
onto_first request (first ∷ more) rest = record { ended = (request ∷ first) ∷ more; rest = rest }

-- a line at the front; an `end` there ends an empty batch
abbrev pub onto : Option Request → Batches → Batches
onto None batches = record { ended = [] ∷ batches.ended; rest = batches.rest }
onto (Some request) batches = onto_first request batches.ended batches.rest

abbrev pub batches_of : List (Option Command) → Batches
batches_of [] = record { ended = []; rest = [] }
batches_of (meaning ∷ meanings) = onto (request_of meaning) (batches_of meanings)
