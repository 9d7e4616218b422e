-- The answer to each move, as far as the moves and answers before it decide it: its refusal, or
-- its plain answer.
use Rattle.std.specs.Prelude.{◌≡◌, ◌⊎◌, ◌≤◌, ℕ, List, [], ◌∷◌, length, true, false, Ok, replicate}
use Rattle.world_ticks.specs.After.{after_actions, after_ticks}
use Rattle.disk_model.specs.FileState.{FileState}
use Rattle.disk_model.specs.declared.four_files.FourFiles.{FourFiles}
use Rattle.action_log.specs.declared.answer.LogAnswer.{LogAnswer}
use Rattle.action_log.specs.declared.answer.LogAnswer.TheVariants as log_answer
use Rattle.world_core.specs.declared.moves.Move.{Move}
use Rattle.world_core.specs.declared.moves.Move.TheVariants as move
use Rattle.world_core.specs.declared.moves.Answer.{Answer}
use Rattle.world_core.specs.declared.moves.Answer.TheVariants as answer
use Rattle.world_core.specs.History.{History}
use Rattle.world_core.specs.Standing.{is_starting, is_log_waiting, unless_refused, get_answer}
use Rattle.world_core.specs.Standing.{end_answer, mark_refusal_at, cover_refusal_at}
use Rattle.world_core.specs.Past.{Past, past_after, past_of, fresh_past}
use Rattle.world_core.specs.State.{State}
use Rattle.world_core.specs.Starting.{BeginsFresh}
use Rattle.world_core.specs.Exact.{tick_refusal_in, IsActionAnswer, IsImageAnswer, IsCrashAnswer}
use Rattle.world_core.specs.Facts.{IsCoreAt}
use Rattle.world_core.specs.Headline.{AreSafe, Runs}
use Rattle.world_core.specs.Written.{AreWritten}

-- these are the words after the ended ticks and the running one
abbrev pub AreWords : (cells : ℕ) → History → (words : List ℕ) → Type 0
AreWords cells history words =
    (last : List ℕ) × (after_ticks (replicate cells 0) history.ticks ≡ Ok last)
    × (after_actions last history.running ≡ Ok words)

-- the answer to a step of the log keeper; a receipt is of an ended tick
abbrev pub IsPlainLogAnswer : Past → LogAnswer → Type 0
IsPlainLogAnswer past log_answer.Idle =
    (is_log_waiting past.standing ≡ true) ⊎ (past.standing.is_log_down ≡ false)
IsPlainLogAnswer past log_answer.Working =
    (is_log_waiting past.standing ≡ false) × (past.standing.is_log_down ≡ false)
IsPlainLogAnswer past (log_answer.Acked tick) =
    (is_starting past.standing ≡ false) × (past.standing.is_log_down ≡ false)
    × (tick ≤ length past.history.ticks)
IsPlainLogAnswer past log_answer.Down = is_log_waiting past.standing ≡ false

-- The answer to a move: its refusal, or its plain answer. A crash of safe files is answered by
-- recovery of the bytes that it leaves. Answers that depend on the queue stay open: how many
-- records it holds, and what a cover takes.
abbrev pub IsPlainAnswer : (cells : ℕ) → Past → Move → Answer → Type 0
IsPlainAnswer cells past (move.Act action) given =
    (words : List ℕ) × AreWords cells past.history words × IsActionAnswer past words action given
IsPlainAnswer cells past (move.Get cell) given =
    (words : List ℕ) × AreWords cells past.history words × (given ≡ get_answer words cell)
IsPlainAnswer cells past move.End given =
    (queued : ℕ) × (given ≡ end_answer (tick_refusal_in past) (length past.history.ticks) queued)
IsPlainAnswer cells past move.Mark given =
    (queued : ℕ)
    × (given
    ≡ unless_refused
    (mark_refusal_at past.standing (length past.history.ticks) queued past.history.running)
    (answer.Started (length past.history.ticks)))
IsPlainAnswer cells past (move.Image fate) (answer.Image given) = IsImageAnswer past.standing given
IsPlainAnswer cells past (move.Image fate) given = ⊥
IsPlainAnswer cells past (move.Log fate) (answer.Log given) = IsPlainLogAnswer past given
IsPlainAnswer cells past (move.Log fate) given = ⊥
IsPlainAnswer cells past (move.Cover tick) given =
    (reported : LogAnswer)
    × (given ≡ unless_refused (cover_refusal_at past.standing tick) (answer.Log reported))
IsPlainAnswer cells past (move.Crash left) given =
    (files : FourFiles FileState)
    × AreSafe past.has_image files (replicate cells 0) past.history.ticks past.acknowledged
    × IsCrashAnswer files left.image_a.items left.image_b.items
    left.log_a.items left.log_b.items given

-- each move is answered so, one after another
abbrev pub AreAnswered : (cells : ℕ) → Past → List Move → List Answer → Type 0
AreAnswered cells past [] [] = Unit {0}
AreAnswered cells past [] (given ∷ answers) = ⊥
AreAnswered cells past (asked ∷ moves) [] = ⊥
AreAnswered cells past (asked ∷ moves) (given ∷ answers) =
    IsPlainAnswer cells past asked given
    × AreAnswered cells (past_after past asked given) moves answers

-- for a private function: a fresh core was asked these moves, and gave these answers
unfoldable pub HasRun : (cells : ℕ) → List Move → List Answer → State → Type 0
HasRun cells moves answers state =
    IsCoreAt (past_of fresh_past moves answers) state
    × (length answers ≡ length moves) × (state.images.cells ≡ cells)
    × ((first : State) × BeginsFresh cells first × Runs fresh_past first moves answers state)
    × AreAnswered cells fresh_past moves answers
    × AreWritten (past_of fresh_past moves answers) state
