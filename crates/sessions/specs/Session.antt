-- The text of a client's session over a world that answers batches by its own relation.
use Rattle.std.specs.Prelude.{◌≡◌, ℕ, Bool, true, false, List, [], ◌∷◌, ◌++◌, length, nat_lt}
use Rattle.std.specs.Prelude.{if◌then◌else◌, Option, Result, Ok, Err}
use Rattle.line_grammar.specs.declared.command.Command.{Command}
use Rattle.world_actions.specs.declared.refusal.Refusal.{Refusal}
use Rattle.world_actions.specs.declared.refusal.Refusal.TheVariants.{BadLine}
use Rattle.byte_streams.specs.Front.{IsFront}
use Rattle.batches.specs.declared.batch.Request.{Request}
use Rattle.batches.specs.declared.batch.TheConstants.{BATCH_LINES}
use Rattle.batches.specs.Batch.{ended_lines, MeanAll, batches_of}
use Rattle.batches.specs.Answer.{fault_text}

-- ---- which batches are answered

abbrev pub is_too_long : List Request → Bool
is_too_long requests = nat_lt BATCH_LINES (length requests)

-- the batches before the first one that is too long
abbrev pub answered_in : List (List Request) → List (List Request)
answered_in [] = []
answered_in (batch ∷ batches) = if is_too_long batch then [] else batch ∷ answered_in batches

-- a batch is too long: one that ended, or the one after the last `end`
abbrev pub ends_early : List (List Request) → (rest : List Request) → Bool
ends_early [] rest = is_too_long rest
ends_early (batch ∷ batches) rest = if is_too_long batch then true else ends_early batches rest

-- ---- the text

-- the line of an answer
abbrev pub line_of : Result (List ℕ) Refusal → List ℕ
line_of (Ok text) = text
line_of (Err refusal) = fault_text refusal

-- the last line, if a batch is too long
abbrev pub early_end : Bool → List ℕ
early_end true = fault_text BadLine
early_end false = []

module _ {S : Type 0} (runs : S → List Request → Result (List ℕ) Refusal → S → Type 0) where
  -- a world answers batches in order, each by one line
  abbrev pub Answers : S → List (List Request) → List ℕ → S → Type 0
  Answers first [] text last = (text ≡ []) × (last ≡ first)
  Answers first (batch ∷ batches) text last =
      (given : Result (List ℕ) Refusal) × (next : S) × (more : List ℕ)
      × runs first batch given next × Answers next batches more last
      × (text ≡ line_of given ++ more)

  -- The text of a session on this input: the answers to its batches in order, and a last line if
  -- one is too long. Bytes without a newline and lines without an `end` are dropped.
  pub record IsSession (first : S) (input text : List ℕ) (last : S) (early : Bool) : Type 0 where
    pub meanings : List (Option Command)
    pub mean : MeanAll (ended_lines input) meanings
    pub answers : List ℕ
    pub answered : Answers first (answered_in (batches_of meanings).ended) answers last
    pub early_is : early ≡ ends_early (batches_of meanings).ended (batches_of meanings).rest
    pub text_is : text ≡ answers ++ early_end early

  -- The line whose writing failed. None was begun, or it was the answer to the next batch, or the
  -- one for a batch that is too long.
  pub data BrokenOff (now : S) (later : List (List Request)) (too_long : Bool) (part : List ℕ)
      (last : S) : Type 0 where
    Between : part ≡ [] → last ≡ now → BrokenOff now later too_long part last
    InAnswer : (batch : List Request) (others : List (List Request))
        (given : Result (List ℕ) Refusal) → later ≡ batch ∷ others → runs now batch given last
        → IsFront part (line_of given) → BrokenOff now later too_long part last
    InEnd : later ≡ [] → too_long ≡ true → last ≡ now → IsFront part (fault_text BadLine)
        → BrokenOff now later too_long part last

  -- the output after a fault: the answers to the first batches, and then at most a front
  -- of the next line
  pub record IsCutOff (first : S) (input written : List ℕ) (last : S) : Type 0 where
    pub meanings : List (Option Command)
    pub mean : MeanAll (ended_lines input) meanings
    pub done : List (List Request)
    pub later : List (List Request)
    pub split : answered_in (batches_of meanings).ended ≡ done ++ later
    pub now : S
    pub answers : List ℕ
    pub answered : Answers first done answers now
    pub part : List ℕ
    pub written_is : written ≡ answers ++ part
    pub broken : BrokenOff now later
        (ends_early (batches_of meanings).ended (batches_of meanings).rest) part last
