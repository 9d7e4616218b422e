-- The part of a batch that is read so far.
use Rattle.std.specs.Prelude.{◌≡◌, ◌≤◌, ℕ, ◌+◌, List, [], ◌∷◌, ◌++◌, length, Option}
use Rattle.line_grammar.specs.declared.command.Command.{Command}
use Rattle.line_grammar.specs.Kept.{kept_of, HasNoNewline}
use Rattle.batches.specs.declared.batch.Request.{Request}
use Rattle.batches.specs.declared.batch.TheConstants.{BATCH_LINES}
use Rattle.batches.specs.Batch.{ended_lines, MeanAll, batches_of}

-- the requests so far, and the bytes that are kept of the line that has not ended
pub record Reading : Type 0 where
  pub requests : List Request
  pub kept : List ℕ

-- The bytes end with a whole line, or there are none. Their lines have these meanings, and whatever
-- follows begins a line.
pub record AreLines (bytes : List ℕ) (meanings : List (Option Command)) : Type 0 where
  pub lines : List (List ℕ)
  pub mean : MeanAll lines meanings
  pub on : (later : List ℕ) → ended_lines (bytes ++ later) ≡ lines ++ ended_lines later

-- The bytes since the last batch hold no `end`. These are their requests, which aren't too many,
-- and the kept bytes of the line after them.
pub record IsBegun (bytes : List ℕ) (reading : Reading) : Type 0 where
  pub before : List ℕ
  pub line : List ℕ
  pub meanings : List (Option Command)
  pub split : bytes ≡ before ++ line
  pub lines : AreLines before meanings
  pub requests : batches_of meanings ≡ record { ended = []; rest = reading.requests }
  pub few : length reading.requests ≤ BATCH_LINES
  pub unbroken : HasNoNewline line
  pub kept_is : reading.kept ≡ kept_of line

-- the bytes are one whole batch, with these requests
pub record IsWhole (bytes : List ℕ) (requests : List Request) : Type 0 where
  pub meanings : List (Option Command)
  pub lines : AreLines bytes meanings
  pub batch : batches_of meanings ≡ record { ended = requests ∷ []; rest = [] }
  pub few : length requests ≤ BATCH_LINES

-- the bytes begin a batch that is too long
pub record IsTooMuch (bytes : List ℕ) : Type 0 where
  pub meanings : List (Option Command)
  pub requests : List Request
  pub lines : AreLines bytes meanings
  pub batch : batches_of meanings ≡ record { ended = []; rest = requests }
  pub many : length requests ≡ BATCH_LINES + 1
