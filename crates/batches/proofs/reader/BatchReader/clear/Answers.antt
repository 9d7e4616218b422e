use Rattle.batches.proofs.ReadingLemmas.{begun_fresh}
use Rattle.batches.proofs.reader.BatchReader.clear.Goals as goal

pub returns-clause-begun : goal.returns-clause-begun
returns-clause-begun c = rw (c.clear.ensures, c.clear-2.ensures.list) begun_fresh
