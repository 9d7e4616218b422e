use Rattle.zigzag.proofs.ArraysLemmas.{within-live_words}
use Rattle.zigzag.proofs.zigzag.ZigzagCells.read.Goals as goal

pub word-requires : goal.word-requires
word-requires c = within-live_words c.args.self.now c.args.i c.requires
