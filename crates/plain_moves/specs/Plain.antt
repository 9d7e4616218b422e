-- Moves and answers of the core as plain values.
use Rattle.std.specs.Prelude.{Option, None, Some}
use Rattle.action_log.specs.declared.answer.LogAnswer.TheVariants as log_answer
use Rattle.image_files.specs.declared.answer.ImageAnswer.TheVariants as image_answer
use Rattle.world_core.specs.declared.moves.Move.{Move}
use Rattle.world_core.specs.declared.moves.Move.TheVariants as move
use Rattle.world_core.specs.declared.moves.Answer.{Answer}
use Rattle.world_core.specs.declared.moves.Answer.TheVariants as answer
use Rattle.plain_moves.specs.declared.asked.Asked.{Asked}
use Rattle.plain_moves.specs.declared.asked.Asked.TheVariants as asked
use Rattle.plain_moves.specs.declared.plain_answer.PlainAnswer.{PlainAnswer}
use Rattle.plain_moves.specs.declared.plain_answer.PlainAnswer.TheVariants as reported

-- the move that is asked, if it is no crash
abbrev pub move_of : Asked → Option Move
move_of (asked.Act action) = Some (move.Act action)
move_of (asked.Get cell) = Some (move.Get cell)
move_of asked.End = Some move.End
move_of asked.Mark = Some move.Mark
move_of (asked.Image fate) = Some (move.Image fate)
move_of (asked.Log fate) = Some (move.Log fate)
move_of (asked.Cover tick) = Some (move.Cover tick)
move_of asked.Crash = None
move_of asked.ImpossibleCrash = None

-- an answer as a plain value
abbrev pub reported_of : Answer → PlainAnswer
reported_of answer.Did = reported.Did
reported_of (answer.Word word) = reported.Word word
reported_of (answer.Ended tick) = reported.Ended tick
reported_of (answer.Started tick) = reported.Started tick
reported_of (answer.Image image_answer.Idle) = reported.ImageIdle
reported_of (answer.Image image_answer.Working) = reported.ImageWorking
reported_of (answer.Image (image_answer.Opened tick)) = reported.ImageOpened tick
reported_of (answer.Image image_answer.Down) = reported.ImageDown
reported_of (answer.Log log_answer.Idle) = reported.LogIdle
reported_of (answer.Log log_answer.Working) = reported.LogWorking
reported_of (answer.Log (log_answer.Acked tick)) = reported.LogAcked tick
reported_of (answer.Log log_answer.Down) = reported.LogDown
reported_of (answer.Recovered tick from) = reported.Recovered tick from
reported_of answer.Blank = reported.Blank
reported_of (answer.Refused refusal) = reported.Refused refusal
