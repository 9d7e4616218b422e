use Rattle.std.proofs.Common.{slice_index, rules}
use Rattle.world_folder.specs.WordsText.{IsSeparator}
use Rattle.world_folder.proofs.WordsLemmas.{no_separator_at}
use Rattle.world_folder.proofs.words_text.end_of_part.Goals as goal

pub loop-at-preserved : goal.loop-at-preserved
loop-at-preserved c =
    let other : ¬ IsSeparator (slice_index c.args.text.now c.loop-at.at) = search rules in
    no_separator_at c.args.text.now c.loop-at.at c.loop-at-test.true other c.loop-at.invariant
