use Rattle.std.proofs.Common.{rules}
use Rattle.file_readers.proofs.ImageLemmas.{image_bad, image_words}
use Rattle.file_readers.proofs.image.image_end.Goals as goal

pub returns-in-Some-clause-counts : goal.returns-in-Some-clause-counts
returns-in-Some-clause-counts c = search (rules, image_words)

pub returns-in-None-clause-counts : goal.returns-in-None-clause-counts
returns-in-None-clause-counts c = search (rules, image_bad)
