-- Moves of one keeper until it is idle or down, and the start, which consists of such
-- moves of both.
use Rattle.std.specs.Prelude.{◌≡◌, ◌⊎◌, ℕ, ◌+◌, ◌≤◌, true, false, None, List, [], ◌∷◌, ◌++◌, length}
use Rattle.std.specs.Prelude.{replicate, Vec}
use Rattle.std.specs.declared.alloc.Global.{Global}
use Rattle.disk_model.specs.declared.leaving.Leaving.{Leaving}
use Rattle.disk_model.specs.Leaving.{left_by}
use Rattle.image_files.specs.declared.answer.ImageAnswer.{ImageAnswer}
use Rattle.image_files.specs.declared.answer.ImageAnswer.TheVariants as image_answer
use Rattle.image_files.specs.Progress.{left_of}
use Rattle.action_log.specs.declared.answer.LogAnswer.{LogAnswer}
use Rattle.action_log.specs.declared.answer.LogAnswer.TheVariants as log_answer
use Rattle.action_log.specs.Progress.{work_of}
use Rattle.world_core.specs.declared.moves.Fate.{Fate}
use Rattle.world_core.specs.declared.moves.Fate.TheVariants.{Done}
use Rattle.world_core.specs.declared.moves.Move.{Move}
use Rattle.world_core.specs.declared.moves.Move.TheVariants as move
use Rattle.disk_model.specs.FourFiles.{EachFile}
use Rattle.disk_model.specs.declared.four_files.FourFiles.{FourFiles}
use Rattle.world_core.specs.declared.moves.Answer.{Answer}
use Rattle.world_core.specs.declared.moves.Answer.TheVariants as answer
use Rattle.world_core.specs.Standing.{Standing, is_starting, is_log_waiting}
use Rattle.world_core.specs.Past.{Past, past_of}
use Rattle.world_core.specs.State.{State}
use Rattle.world_core.specs.Facts.{IsCoreAt}
use Rattle.world_core.specs.Headline.{Runs}

-- the keeper continues after this answer
abbrev pub GoesOn : Answer → Type 0
GoesOn (answer.Image image_answer.Working) = Unit {0}
GoesOn (answer.Image (image_answer.Opened tick)) = Unit {0}
GoesOn (answer.Log log_answer.Working) = Unit {0}
GoesOn (answer.Log (log_answer.Acked tick)) = Unit {0}
GoesOn given = ⊥

-- the keeper continues after each of these answers
abbrev pub AllGoOn : List Answer → Type 0
AllGoOn [] = Unit {0}
AllGoOn (given ∷ answers) = GoesOn given × AllGoOn answers

-- the last news after this answer; an opened image or a receipt is news
abbrev pub reported_by : Answer → Answer → Answer
reported_by reported (answer.Image (image_answer.Opened tick)) =
    answer.Image (image_answer.Opened tick)
reported_by reported (answer.Log (log_answer.Acked tick)) = answer.Log (log_answer.Acked tick)
reported_by reported given = reported

abbrev pub reported_of : Answer → List Answer → Answer
reported_of reported [] = reported
reported_of reported (given ∷ answers) = reported_of (reported_by reported given) answers

-- the result in the end: Down, or the last news if the keeper is idle
abbrev pub IsReportedAtEnd : (last reported result : Answer) → Type 0
IsReportedAtEnd (answer.Image image_answer.Idle) reported result = result ≡ reported
IsReportedAtEnd (answer.Image image_answer.Down) reported result =
    result ≡ answer.Image image_answer.Down
IsReportedAtEnd (answer.Log log_answer.Idle) reported result = result ≡ reported
IsReportedAtEnd (answer.Log log_answer.Down) reported result = result ≡ answer.Log log_answer.Down
IsReportedAtEnd last reported result = ⊥

-- the same move is repeated until its keeper is idle or down
pub record AreRepeats (asked : Move) (moves : List Move) (answers : List Answer)
    (idle result : Answer) : Type 0 where
  pub front : List Answer
  pub last : Answer
  pub moves_are : moves ≡ replicate (length front + 1) asked
  pub answers_are : answers ≡ front ++ last ∷ []
  pub going : AllGoOn front
  pub reported : IsReportedAtEnd last (reported_of idle front) result

-- moves lead from a core of this past to one of that past
pub record RunsOn (past : Past) (old : State) (moves : List Move) (answers : List Answer)
    (next : Past) (new : State) : Type 0 where
  pub runs : Runs past old moves answers new
  pub next_is : next ≡ past_of past moves answers
  pub stands : IsCoreAt next new

-- one move is repeated until its keeper is idle or down, at most `most` times and once more
pub record Repeats (asked : Move) (idle : Answer) (most : ℕ) (past : Past) (old : State)
    (reported : Answer) (next : Past) (new : State) : Type 0 where
  pub moves : List Move
  pub answers : List Answer
  pub all : AreRepeats asked moves answers idle reported
  pub few : length moves ≤ most + 1
  pub on : RunsOn past old moves answers next new

-- steps of the image keeper, at most one more than the open round has left
abbrev pub RepeatsImages : Fate → Past → State → (reported : ImageAnswer) → Past → State → Type 0
RepeatsImages fate past old reported next new =
    Repeats (move.Image fate) (answer.Image image_answer.Idle) (left_of old.images) past old
    (answer.Image reported) next new

-- steps of the log keeper, at most one more than its job and its queue need
abbrev pub RepeatsLog : Fate → Past → State → (reported : LogAnswer) → Past → State → Type 0
RepeatsLog fate past old reported next new =
    Repeats (move.Log fate) (answer.Log log_answer.Idle) (work_of old.log old.queue) past old
    (answer.Log reported) next new

-- a start: steps of the image keeper, and then of the log keeper
pub record RunsStart (past : Past) (old : State) (next : Past) (new : State) : Type 0 where
  pub image_reported : ImageAnswer
  pub log_reported : LogAnswer
  pub mid_past : Past
  pub mid : State
  pub images : RepeatsImages Done past old image_reported mid_past mid
  pub log : RepeatsLog Done mid_past mid log_reported next new

-- ---- when they have ended

-- no round is open, or the image keeper is down
abbrev pub ImagesSettled : Standing → Type 0
ImagesSettled standing = (standing.round ≡ None) ⊎ (standing.is_image_down ≡ true)

-- the log keeper is down, or waits for the start's image, or has no work and isn't in a start
abbrev pub LogSettled : Standing → State → Type 0
LogSettled standing state =
    (standing.is_log_down ≡ true)
    ⊎ ((is_log_waiting standing ≡ true)
    ⊎ ((work_of state.log state.queue ≡ 0) × (is_starting standing ≡ false)))

-- the start has ended, or a keeper is down
abbrev pub StartSettled : Standing → Type 0
StartSettled standing =
    (is_starting standing ≡ false)
    ⊎ ((standing.is_image_down ≡ true) ⊎ (standing.is_log_down ≡ true))

-- ---- files

-- the bytes that such a crash leaves of each file
abbrev pub AreLeft : Leaving → State → FourFiles (Vec ℕ Global) → Type 0
AreLeft leaving state left =
    EachFile left state.files (λ bytes file. bytes.items ≡ left_by leaving file.inner)
