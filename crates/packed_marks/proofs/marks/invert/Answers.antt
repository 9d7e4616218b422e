use Rattle.std.proofs.Common.{◌∙◌, ◌/◌, ◌%◌, ◌-◌, ℕ, sym, ap, not, get_or, arith}
use mathlib.Core.Logic.{dite}
use native.Mathlib.Decide.{ℕ_discrete}
use Rattle.packed_marks.specs.Bits.{is_set}
use Rattle.packed_marks.proofs.BitLemmas.{marked_here, marked_else, complement_set}
use Rattle.packed_marks.proofs.marks.invert.Goals as goal

pub loop-k-preserved : goal.loop-k-preserved
loop-k-preserved c = λ i l.
    let v : ℕ = 18446744073709551615 - get_or c.args.words.now c.loop-k.k 0 in
    let test = c.loop-k-test.true in
    let long = c.loop-k.auto.others in
    dite (ℕ_discrete (i / 64) c.loop-k.k)
    (λ here. marked_here c.loop-k.others c.loop-k.k v i (omega arith) here
    ∙ (complement_set (get_or c.args.words.now c.loop-k.k 0) (i % 64) (c.type_inv.words c.loop-k.k).fits (omega arith)
    ∙ ap (λ (z : ℕ). not (is_set (get_or c.args.words.now z 0) (i % 64))) (sym here)))
    (λ no. marked_else c.loop-k.others c.loop-k.k v i no ∙ c.loop-k.invariant i (omega arith))
