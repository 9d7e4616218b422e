use Rattle.zigzag.proofs.ArraysLemmas.{within-live_words}
use Rattle.zigzag.proofs.zigzag.Zigzag.arrays.Goals as goal

pub entries-requires : goal.entries-requires
entries-requires c = within-live_words c.args.self.now c.args.i c.requires
