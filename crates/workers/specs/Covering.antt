-- The records that the log writer leaves out of the log, because an open image has their ticks.
use Rattle.std.specs.Prelude.{◌≡◌, ◌⊎◌, ℕ, ◌≤◌, List, [], ◌∷◌, ◌++◌, Contains}
use Rattle.action_log.specs.declared.record.Record.{Record}
use Rattle.action_log.specs.declared.record.Record.TheVariants as records
use Rattle.action_log.specs.declared.answer.LogAnswer.{LogAnswer}
use Rattle.action_log.specs.Logs.{Logs}
use Rattle.action_log.specs.LogSteps.{LogsStep}
use Rattle.action_log.specs.Cover.{CoverStep}
use Rattle.shared_capture.specs.SignalWord.{SignalState}

-- a switch at one of these ticks comes first
abbrev pub BeginsAt : List ℕ → List Record → Type 0
BeginsAt ticks [] = ⊥
BeginsAt ticks (records.Tick tick ∷ queue) = ⊥
BeginsAt ticks (records.Switch tick ∷ queue) = Contains ticks tick

-- The logged records are in the order of all records. A record may be left out only if the next
-- logged one is a switch at one of these ticks.
abbrev pub LeavesOut : List ℕ → (all logged : List Record) → Type 0
LeavesOut ticks [] logged = logged ≡ []
LeavesOut ticks (first ∷ all) logged =
    ((rest : List Record) × (logged ≡ first ∷ rest) × LeavesOut ticks all rest)
    ⊎ (BeginsAt ticks logged × LeavesOut ticks all logged)

-- one of these ticks isn't below this one
abbrev pub IsCovered : List ℕ → ℕ → Type 0
IsCovered ticks number = (tick : ℕ) × Contains ticks tick × (number ≤ tick)

-- the log advances by a step of its keeper, or by a cover of this tick
abbrev pub Advances : ℕ → Logs → List Record → LogAnswer → Logs → List Record → Type 0
Advances tick logs queue given next left =
    LogsStep logs queue given next left ⊎ ((next ≡ logs) × CoverStep logs queue tick given left)

-- it was loaded any number of times more
abbrev pub LoadsOn : SignalState → SignalState → Type 0
LoadsOn old new = (more : List ℕ) × (new ≡ record old { numbers = old.numbers ++ more })
