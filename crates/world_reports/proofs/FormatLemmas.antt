-- The format by the mark of an open file.
use Rattle.std.proofs.Common.{◌≡◌, ℕ, ◌<◌, ◌≤◌, List, false, Some, length, drop, refl, ◌∙◌, ap, arith}
use Rattle.std.specs.Prelude.{nat_lt}
use Rattle.std.proofs.lemmas.Bool.Decides.{nat_tests}
use Rattle.file_format.specs.declared.format.Format.{Format}
use Rattle.file_format.specs.Number.{number_of}
use Rattle.file_format.specs.Format.{marked_of, unmarked, format_in}
use Rattle.file_format.proofs.FormatLemmas.{unmarked-marked_of}
use Rattle.image_files.specs.Image.{Image, image_of}
use Rattle.image_files.proofs.SpellingLemmas.{open_file, most_of}

-- a file is long enough for a mark, and has this one
format_there : (file : List ℕ) (format : Format) (number : ℕ) → 9 ≤ length file → number < 1152921504606846976
    → number_of 8 (drop 1 file) ≡ marked_of format number → format_in file ≡ Some format
format_there file format number long small is =
    let enough : nat_lt (length file) 9 ≡ false = grind (arith, nat_tests) in
    let read : unmarked (number_of 8 (drop 1 file)) ≡ Some (format, number) = ap unmarked is ∙ unmarked-marked_of format number small in
    rw (enough, read) refl

-- of an open image
pub image_format : (file : List ℕ) (tick : ℕ) (words : List ℕ) → image_of file ≡ Image.Open tick words → (format : Format) × (format_in file ≡ Some format)
image_format file tick words is =
    let open_one = open_file file tick words is in
    (open_one.format, format_there file open_one.format (length words) (omega (arith, open_one.room)) (omega (arith, open_one.most, most_of open_one.format)) open_one.marked_is)
