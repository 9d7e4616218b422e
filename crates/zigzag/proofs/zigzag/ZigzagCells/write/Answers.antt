use Rattle.std.proofs.Common.{ap}
use Rattle.zigzag.proofs.ArraysLemmas.{within-live_words, content_of-written_arrays}
use Rattle.zigzag.proofs.zigzag.ZigzagCells.write.Goals as goal

pub put_word-requires-clause-inside : goal.put_word-requires-clause-inside
put_word-requires-clause-inside c = within-live_words c.args.self.now c.args.i c.requires.inside

pub returns-clause-word : goal.returns-clause-word
returns-clause-word c = rw c.put_word.ensures (ap (λ store. store.live) (content_of-written_arrays c.args.self.now c.args.i c.args.v))

pub returns-clause-access : goal.returns-clause-access
returns-clause-access c = rw c.put_word.ensures (content_of-written_arrays c.args.self.now c.args.i c.args.v)
