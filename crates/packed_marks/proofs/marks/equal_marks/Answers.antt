use Rattle.std.proofs.Common.{List, arith, ℕ, ◌∙◌, sym, ap, subst, replicate}
use Rattle.std.proofs.lemmas.Result.{IfOk-weaker}
use Rattle.packed_marks.specs.Bits.{marked}
use Rattle.packed_marks.specs.Marks.{IsPacked}
use Rattle.packed_marks.proofs.MarkLemmas.{marks_of-replicate, clear_marked, packed-clear}
use Rattle.packed_marks.proofs.marks.equal_marks.Goals as goal

pub returns-then-set-clause-marks : goal.returns-then-set-clause-marks
returns-then-set-clause-marks c =
    IfOk-weaker c.full_marks.result _ _ (λ words full. marks_of-replicate c.args.cells words.items c.args.set (λ i l. full.cells i l ∙ sym c.if-set.true)) c.full_marks.ensures

pub returns-else-set-clause-packed : goal.returns-else-set-clause-packed
returns-else-set-clause-packed c =
    IfOk-weaker c.vec.result _
    _ (λ words e. subst (IsPacked c.args.cells) (sym (e (λ y f. f) ∙ ap (λ (n : ℕ). replicate n 0) c.chunks_of.ensures)) (packed-clear c.args.cells)) c.vec.ensures.items_if_clones_equal

pub returns-else-set-clause-marks : goal.returns-else-set-clause-marks
returns-else-set-clause-marks c =
    IfOk-weaker c.vec.result _ _ (λ words e. marks_of-replicate c.args.cells words.items c.args.set (λ i l.
    ap (λ (list : List ℕ). marked list i) (e (λ y f. f) ∙ ap (λ (n : ℕ). replicate n 0) c.chunks_of.ensures)
    ∙ clear_marked c.args.cells i (omega arith) ∙ sym c.if-set.false)) c.vec.ensures.items_if_clones_equal
