use Rattle.std.proofs.Common.{rules, arith, ◌≡◌, ℕ, get_or, ◌∙◌, ap, sym, length, subst, List}
use Rattle.packed_marks.specs.Bits.{IsFull}
use Rattle.shared_capture.specs.declared.method.Kind.TheVariants.{Zigzag}
use Rattle.shared_capture.specs.Seats.{ListsChanges}
use Rattle.shared_capture.proofs.Fronts.{front_made, start_seen}
use Rattle.shared_capture.proofs.Backs.{back_made}
use Rattle.shared_capture.proofs.Changes.{lists_none}
use Rattle.shared_capture.proofs.pair.seat_pair.Goals as goal

pub invariant_of-result : goal.invariant_of-result
invariant_of-result g c =
    let marks = c.in_ok-marks.marks.items in
    let same : g.M.Method.KIND ≡ Zigzag → c.in_ok-away.away.items ≡ marks = λ e. c.in_ok-away.ensures e ∙ search rules in (
      front_made _ _ _ _ _ _ _ _ _ c.in_ok-table.ensures.1 (subst (λ (z : ℕ). IsFull z marks) c.len-cells.ensures c.in_ok-marks.ensures) (search rules) c.requires same,
      λ e. (
        subst (ListsChanges marks c.in_ok-away.away.items) (sym c.in_ok-changed.ensures.items) (lists_none marks c.in_ok-away.away.items (λ k l. ap (λ (z : List ℕ). get_or z k 0) (sym (same e)))),
        omega (arith, c.in_ok-changed.ensures.capacity, c.len.ensures, ap length (same e)),
      ),
    )

pub invariant_of-result-2 : goal.invariant_of-result-2
invariant_of-result-2 g c = back_made _ _ _ _ _ _ _ _ _ _ _ c.in_ok-table.ensures.1 (ap (λ z. z.shared.table_id) c.in_ok-table.ensures.0) (search rules) c.len-cells.ensures

pub returns-clause-ok : goal.returns-clause-ok
returns-clause-ok g c = start_seen g.M.Method.KIND _ _ _ _ _ _ _ c.in_ok-table.ensures.1
    (subst (λ (z : ℕ). IsFull z c.in_ok-marks.marks.items) c.len-cells.ensures c.in_ok-marks.ensures) (search rules)
