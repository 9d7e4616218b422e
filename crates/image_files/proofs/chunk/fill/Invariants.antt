use Rattle.std.proofs.Common.{◌≡◌, ◌++◌, take, drop}
use Rattle.std.specs.Prelude.{map}
use Rattle.image_files.specs.Image.{words_from}
use Rattle.image_files.specs.Taken.{filled_words}
use Rattle.capture_core.specs.declared.taker.Taken.TheVariants.{Word}
use Rattle.image_files.proofs.chunk.fill.Given as goal

abbrev pub invariant-loop-i : goal.invariant-loop-i
invariant-loop-i l = l.cells ≡ map (λ word. Word word) (filled_words (take l.i l.fn.cells) (words_from l.bytes 0 l.i)) ++ drop l.i l.fn.cells
