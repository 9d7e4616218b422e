use Rattle.std.proofs.Common.{rules}
use Rattle.std.proofs.lemmas.Result.{on_ok_weaker}
use Rattle.image_files.proofs.WordsImageLemmas.{whole_image}
use Rattle.image_files.proofs.words_image.write_words.Goals as goal

pub returns-clause-made : goal.returns-clause-made
returns-clause-made g c = search (rules, on_ok_weaker, whole_image)

pub returns-clause-left : goal.returns-clause-left
returns-clause-left g c = search (rules, whole_image)
