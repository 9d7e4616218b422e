use Rattle.std.proofs.Common.{◌≡◌, ℕ, List, [], Some}
use Rattle.std.specs.Io.KnownBytes.{Appends}
use Rattle.steps.specs.Progress.{Stands}
use Rattle.steps.proofs.script.run_script.Given as goal

-- no answer waits, and for each input that the reader had, the written text answers the bytes that were read
abbrev pub invariant-loop : goal.invariant-loop
invariant-loop g l = record {
  none : l.text.items ≡ [];
  stands : (input : List ℕ) → g.R.Read.remaining l.fn.r ≡ Some input
      → (left : List ℕ) × (g.R.Read.remaining l.r ≡ Some left)
      × ((written : List ℕ) × Appends (g.W.Write.contents l.fn.w) (g.W.Write.contents l.w) written × Stands input l.script left written);
}
