use Rattle.std.proofs.Common.{◌≡◌, ◌≤◌, true, vec_capacity}
use Rattle.std.specs.List.{list_all}
use Rattle.image_files.specs.Image.{is_word, words_from}
use Rattle.image_files.proofs.reader.push_words.Given as goal

-- the words so far are right, and there is room for the others
abbrev pub invariant-loop-i : goal.invariant-loop-i
invariant-loop-i l = record {
  put : l.words.items ≡ words_from l.bytes 17 l.i;
  right : list_all is_word (words_from l.bytes 17 l.i) ≡ true;
  room : l.cells ≤ vec_capacity l.words;
}
