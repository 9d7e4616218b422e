use Rattle.steps.proofs.ScriptLemmas.{answers_each}
use Rattle.steps.proofs.script.script_answers_each_line.Goals as goal

pub returns : goal.returns
returns c = answers_each
