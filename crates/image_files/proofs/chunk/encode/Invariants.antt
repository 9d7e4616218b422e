use Rattle.std.proofs.Common.{◌≡◌, ◌*◌, take, []}
use Rattle.std.specs.List.{flat_map}
use Rattle.file_format.specs.Number.{number_bytes}
use Rattle.image_files.specs.Taken.{filled_words}
use Rattle.image_files.proofs.chunk.encode.Given as goal

abbrev pub invariant-loop-i : goal.invariant-loop-i
invariant-loop-i l = take (8 * l.i) l.buffer ≡ flat_map (number_bytes 8) (filled_words (take l.i l.cells) [])
