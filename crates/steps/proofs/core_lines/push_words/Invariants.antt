use Rattle.steps.proofs.WordsLemmas.{AreSaid}
use Rattle.steps.proofs.core_lines.push_words.Given as goal

-- so many words were added
abbrev pub invariant-loop-cell : goal.invariant-loop-cell
invariant-loop-cell g l = AreSaid l.fn.core l.fn.text.items l.cell l.core l.text.items
