use Rattle.std.proofs.Common.{take}
use Rattle.world_folder.specs.WordsText.{HasNoSeparator}
use Rattle.world_folder.proofs.words_text.end_of_part.Given as goal

-- no separator so far
abbrev pub invariant-loop-at : goal.invariant-loop-at
invariant-loop-at l = HasNoSeparator (take l.at l.text)
