-- Numbers with a mark.
use Rattle.std.proofs.Common.{◌≡◌, ℕ, ◌<◌, Some, arith}
use Rattle.std.proofs.lemmas.Bool.Decides.{nat_tests}
use Rattle.file_format.specs.declared.format.TheConstants.{NUMBERS}
use Rattle.file_format.specs.declared.format.Format.{Format}
use Rattle.file_format.specs.declared.format.Format.TheVariants.{First, Second}
use Rattle.file_format.specs.Format.{marked_of, unmarked}

-- a marked number is read back with its format
pub unmarked-marked_of : (format : Format) (number : ℕ) → number < NUMBERS → unmarked (marked_of format number) ≡ Some (format, number)
unmarked-marked_of First number small = grind (arith, nat_tests)
unmarked-marked_of Second number small = grind (arith, nat_tests)

-- each number that is read has one mark
pub marked_of-unmarked : (marked : ℕ) (format : Format) (number : ℕ) → unmarked marked ≡ Some (format, number) → (marked ≡ marked_of format number) × (number < NUMBERS)
marked_of-unmarked marked First number is = grind (arith, nat_tests)
marked_of-unmarked marked Second number is = grind (arith, nat_tests)
