use Rattle.std.proofs.Common.{◌≡◌, true}
use Rattle.std.specs.List.{list_all}
use Rattle.image_files.specs.Image.{is_word, words_from}
use Rattle.image_files.proofs.reader.are_words.Given as goal

abbrev pub invariant-loop-i : goal.invariant-loop-i
invariant-loop-i l = list_all is_word (words_from l.bytes 17 l.i) ≡ true
