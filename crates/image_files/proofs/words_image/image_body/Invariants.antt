use Rattle.std.proofs.Common.{◌≡◌, ◌≤◌, ◌++◌, vec_capacity, take}
use Rattle.std.specs.List.{flat_map}
use Rattle.file_format.specs.Number.{number_bytes}
use Rattle.image_files.proofs.words_image.image_body.Given as goal

-- the words so far are spelled
abbrev pub invariant-loop-word : goal.invariant-loop-word
invariant-loop-word l = record {
  spelled : l.body.items ≡ l.initial.body.items ++ flat_map (number_bytes 8) (take l.word-index l.words);
  room : vec_capacity l.initial.body ≤ vec_capacity l.body;
}
