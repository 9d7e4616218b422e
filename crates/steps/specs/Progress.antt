-- Inside: for the proofs of this crate's private functions.
-- The progress of a script, for the functions that run it byte by byte.
use Rattle.std.specs.Prelude.{◌≡◌, ℕ, List, [], ◌++◌, Option, Some, None, option_map}
use Rattle.world_actions.specs.declared.refusal.Refusal.{Refusal}
use Rattle.line_grammar.specs.Kept.{kept_of, HasNoNewline}
use Rattle.steps.specs.declared.line.Line.{Line}
use Rattle.world_core.specs.Facts.{IsCoreAt}
use Rattle.steps.specs.OpenCore.{OpenState}
use Rattle.steps.specs.Script.{Opened, lines_of, LineRuns, Replies, IsScriptText, IsCutOff}

-- the open core, and the bytes that are kept of the line that has not ended
pub record ScriptState : Type 0 where
  pub core : Option OpenState
  pub kept : List ℕ

-- the open core, if there is one, agrees with its past
abbrev pub Stand : Option Opened → Type 0
Stand None = Unit {0}
Stand (Some opened) = IsCoreAt opened.played.past opened.played.state

-- the open core was opened and played so
pub record IsAt (opened : Option Opened) (core : Option OpenState) : Type 0 where
  pub state : core
      ≡ option_map (λ (o : Opened). record { method = o.method; state = o.played.state }) opened
  pub stands : Stand opened

-- a line with this meaning leads from the one open core to the other and prints this, however the
-- first was played
pub record LineLeads (meaning : Option Line) (old : Option OpenState) (said : List ℕ)
    (new : Option OpenState) : Type 0 where
  pub on : (from : Option Opened) → IsAt from old
      → (to : Option Opened) × IsAt to new × LineRuns meaning from said to

-- the lines that ended are answered, the line that has not is kept, and these bytes are
-- left of the input
pub record Stands (input : List ℕ) (script : ScriptState) (left written : List ℕ) : Type 0 where
  pub answered : List (List ℕ)
  pub line : List ℕ
  pub split : lines_of input ≡ answered ++ lines_of (line ++ left)
  pub opened : Option Opened
  pub is_at : IsAt opened script.core
  pub replies : Replies None answered written opened
  pub unbroken : HasNoNewline line
  pub kept_is : script.kept ≡ kept_of line

-- the bytes lead from one script to another and write this, whatever came before them and
-- is left after them
pub record LeadsOn (old : ScriptState) (bytes : List ℕ) (new : ScriptState)
    (written : List ℕ) : Type 0 where
  pub on : (input left prior : List ℕ) → Stands input old (bytes ++ left) prior
      → Stands input new left (prior ++ written)

-- with this written at the end of the input, the script's text is whole
pub record Completes (script : ScriptState) (written : List ℕ) : Type 0 where
  pub on : (input prior : List ℕ) → Stands input script [] prior
      → IsScriptText input (prior ++ written)

-- a fault came after this was written, with these bytes left
pub record BreaksOff (script : ScriptState) (left written : List ℕ)
    (refusal : Refusal) : Type 0 where
  pub on : (input prior : List ℕ) → Stands input script left prior
      → IsCutOff input (prior ++ written) refusal
