-- The progress of a session, for the functions that run it piece by piece.
use Rattle.std.specs.Prelude.{◌≡◌, ◌⊎◌, ℕ, List, [], ◌∷◌, ◌++◌, true, false, Option, Result}
use Rattle.line_grammar.specs.declared.command.Command.{Command}
use Rattle.world_actions.specs.declared.refusal.Refusal.{Refusal}
use Rattle.world_actions.specs.declared.refusal.Refusal.TheVariants.{BadLine, Device}
use Rattle.batches.specs.declared.batch.Request.{Request}
use Rattle.batches.specs.Batch.{batches_of}
use Rattle.batches.specs.Reading.{Reading, AreLines, IsBegun}
use Rattle.sessions.specs.Session.{Answers, IsSession, IsCutOff, is_too_long}

-- none of these batches is too long
abbrev pub NoneTooLong : List (List Request) → Type 0
NoneTooLong [] = Unit {0}
NoneTooLong (batch ∷ batches) = (is_too_long batch ≡ false) × NoneTooLong batches

module _ {S : Type 0} (runs : S → List Request → Result (List ℕ) Refusal → S → Type 0) where
  -- the whole batches of these bytes are answered, and the rest is read
  pub record Stands (first : S) (read : List ℕ) (reading : Reading) (now : S)
      (written : List ℕ) : Type 0 where
    pub before : List ℕ
    pub begun : List ℕ
    pub split : read ≡ before ++ begun
    pub meanings : List (Option Command)
    pub lines : AreLines before meanings
    pub batches : List (List Request)
    pub batches_are : batches_of meanings ≡ record { ended = batches; rest = [] }
    pub fit : NoneTooLong batches
    pub answered : Answers runs first batches written now
    pub reads : IsBegun begun reading

  -- the bytes lead from one state to another and write this, whatever came before
  pub record Goes (now : S) (old : Reading) (bytes : List ℕ) (new : Reading) (next : S)
      (written : List ℕ) : Type 0 where
    pub on : (first : S) (read prior : List ℕ) → Stands first read old now prior
        → Stands first (read ++ bytes) new next (prior ++ written)

  -- a batch among the bytes is too long
  pub record EndsEarly (now : S) (old : Reading) (bytes : List ℕ) (last : S)
      (written : List ℕ) : Type 0 where
    pub on : (first : S) (read prior : List ℕ) → Stands first read old now prior
        → IsSession runs first (read ++ bytes) (prior ++ written) last true

  -- a fault came among the bytes, after this was written
  pub record BreaksOff (now : S) (old : Reading) (bytes : List ℕ) (last : S)
      (written : List ℕ) : Type 0 where
    pub on : (first : S) (read prior : List ℕ) → Stands first read old now prior
        → IsCutOff runs first (read ++ bytes) (prior ++ written) last

  -- the session ends among the bytes with this refusal
  abbrev pub EndsBy : S → Reading → List ℕ → Refusal → S → List ℕ → Type 0
  EndsBy now old bytes refusal last written =
      ((refusal ≡ BadLine) × EndsEarly now old bytes last written)
      ⊎ ((refusal ≡ Device) × BreaksOff now old bytes last written)
