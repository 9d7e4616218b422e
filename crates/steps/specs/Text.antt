-- The text of an answer.
use Rattle.std.specs.Prelude.{ℕ, List, ◌++◌, decimal, codes}
use Rattle.world_actions.specs.Refusal.{code_of}
use Rattle.image_files.specs.declared.answer.ImageAnswer.TheVariants as image_answer
use Rattle.action_log.specs.declared.answer.LogAnswer.TheVariants as log_answer
use Rattle.world_core.specs.declared.moves.Answer.{Answer}
use Rattle.world_core.specs.declared.moves.Answer.TheVariants.{Did, Word, Ended, Started, Image}
use Rattle.world_core.specs.declared.moves.Answer.TheVariants.{Log, Recovered, Blank, Refused}

abbrev pub answer_text : Answer → List ℕ
answer_text Did = codes "+"
answer_text (Word word) = codes "= " ++ decimal word
answer_text (Ended tick) = codes "tick " ++ decimal tick
answer_text (Started tick) = codes "mark " ++ decimal tick
answer_text (Image image_answer.Idle) = codes "idle"
answer_text (Image image_answer.Working) = codes "working"
answer_text (Image (image_answer.Opened tick)) = codes "image open " ++ decimal tick
answer_text (Image image_answer.Down) = codes "image down"
answer_text (Log log_answer.Idle) = codes "idle"
answer_text (Log log_answer.Working) = codes "working"
answer_text (Log (log_answer.Acked tick)) = codes "acked " ++ decimal tick
answer_text (Log log_answer.Down) = codes "log down"
answer_text (Recovered tick from) =
    codes "recovered " ++ (decimal tick ++ (codes " from " ++ decimal from))
answer_text Blank = codes "blank"
answer_text (Refused refusal) = codes "- " ++ decimal (code_of refusal)
