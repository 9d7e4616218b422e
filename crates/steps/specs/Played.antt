-- The effect of a line of a script on an open core, and the text that it prints.
use Rattle.std.specs.Prelude.{◌≡◌, ◌≢◌, ℕ, List, decimal, codes, map, Vec}
use Rattle.std.specs.List.{join_with_byte}
use Rattle.world_actions.specs.declared.refusal.Refusal.TheVariants.{NoMemory}
use Rattle.line_grammar.specs.declared.command.Command as commands
use Rattle.line_grammar.specs.declared.command.Command.TheVariants as command
use Rattle.std.specs.declared.alloc.Global.{Global}
use Rattle.disk_model.specs.declared.leaving.Leaving.{Leaving}
use Rattle.image_files.specs.declared.answer.ImageAnswer.{ImageAnswer}
use Rattle.action_log.specs.declared.answer.LogAnswer.{LogAnswer}
use Rattle.disk_model.specs.declared.four_files.FourFiles.{FourFiles}
use Rattle.world_core.specs.declared.moves.Fate.TheVariants.{Done}
use Rattle.world_core.specs.declared.moves.Move.{Move}
use Rattle.world_core.specs.declared.moves.Move.TheVariants as move
use Rattle.world_core.specs.declared.moves.Answer.{Answer}
use Rattle.world_core.specs.declared.moves.Answer.TheVariants as answer
use Rattle.world_core.specs.Past.{Past, past_after, fresh_past}
use Rattle.world_core.specs.State.{State}
use Rattle.world_core.specs.Starting.{BeginsFresh}
use Rattle.world_core.specs.Facts.{IsCoreAt}
use Rattle.world_core.specs.Headline.{Answers}
use Rattle.world_core.specs.Repeating.{AreLeft, RepeatsImages, RepeatsLog, RunsStart}
use Rattle.steps.specs.declared.line.Line.{Line}
use Rattle.steps.specs.declared.line.Line.TheVariants.{Open, Command, Mark, Image, Log, Cover}
use Rattle.steps.specs.declared.line.Line.TheVariants.{Images, Logs, Crash, World}
use Rattle.steps.specs.Text.{answer_text}

-- an open core, and its past: what is known from its moves and answers
pub record Played : Type 0 where
  pub past : Past
  pub state : State

-- one move has this answer, which isn't the refusal NoMemory
pub record Moves (from : Played) (asked : Move) (given : Answer) (to : Played) : Type 0 where
  pub answers : Answers from.past from.state asked given to.state
  pub past : to.past ≡ past_after from.past asked given
  pub stands : IsCoreAt to.past to.state
  pub in_memory : given ≢ answer.Refused NoMemory

-- a fresh core, whose start has run
pub record Opens (cells : ℕ) (to : Played) : Type 0 where
  pub first : State
  pub fresh : BeginsFresh cells first
  pub stands : IsCoreAt fresh_past first
  pub start : RunsStart fresh_past first to.past to.state

-- the start is run, except after a refused crash
abbrev pub Starts : Answer → Played → Played → Type 0
Starts (answer.Refused refusal) from to = to ≡ from
Starts given from to = RunsStart from.past from.state to.past to.state

-- a crash that leaves these bytes of the four files, and the start after it
pub record Crashes (leaving : Leaving) (from : Played) (given : Answer) (to : Played) : Type 0 where
  pub left : FourFiles (Vec ℕ Global)
  pub are_left : AreLeft leaving from.state left
  pub middle : Played
  pub crash : Moves from (move.Crash left) given middle
  pub start : Starts given middle to

-- the move that a client's line asks for
abbrev pub move_of : commands.Command → Move
move_of (command.Act action) = move.Act action
move_of (command.Get cell) = move.Get cell
move_of command.End = move.End

-- one move, and the text of its answer
abbrev pub Plays : Move → Played → List ℕ → Played → Type 0
Plays asked from text to = (given : Answer) × Moves from asked given to × (text ≡ answer_text given)

-- the effect and the text of a line, if a core is open
abbrev pub Runs : Line → Played → List ℕ → Played → Type 0
Runs (Open method cells) from text to = Opens cells to × (text ≡ codes "ready 0")
Runs (Command asked) from text to = Plays (move_of asked) from text to
Runs Mark from text to = Plays move.Mark from text to
Runs Image from text to = Plays (move.Image Done) from text to
Runs Log from text to = Plays (move.Log Done) from text to
Runs Cover from text to = Plays (move.Cover from.past.standing.newest) from text to
Runs (Images fate) from text to =
    (reported : ImageAnswer) × RepeatsImages fate from.past from.state reported to.past to.state
    × (text ≡ answer_text (answer.Image reported))
Runs (Logs fate) from text to =
    (reported : LogAnswer) × RepeatsLog fate from.past from.state reported to.past to.state
    × (text ≡ answer_text (answer.Log reported))
Runs (Crash leaving) from text to =
    (given : Answer) × Crashes leaving from given to × (text ≡ answer_text given)
Runs World from text to =
    (to ≡ from) × (text ≡ join_with_byte 32 (map decimal from.state.content.live))
