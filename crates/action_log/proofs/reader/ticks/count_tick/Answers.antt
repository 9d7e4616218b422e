use Rattle.std.proofs.Common.{◌≡◌, ℕ, List, ◌++◌, ◌∷◌, [], Some, sym, ap, subst, ◌∙◌, arith}
use Rattle.action_log.specs.Reading.{HasWidth, fields_at}
use Rattle.action_log.proofs.ValueReadingLemmas.{from_place, read_start, read_next, read_none, read_all}
use Rattle.action_log.proofs.WidthLemmas.{set_width}
use Rattle.action_log.proofs.reader.ticks.count_tick.Goals.{then-kind-last+in_ok-width, else-kind-last}
use Rattle.action_log.proofs.reader.ticks.count_tick.Goals as goal

-- an action of the same kind is as long
same_width : {last kind width now : ℕ} → last ≡ kind → width ≡ now → HasWidth (fields_at last) width → HasWidth (fields_at kind) now
same_width {width = width} same is known = subst (HasWidth _) is (subst (λ (k : ℕ). HasWidth (fields_at k) width) same known)

pub loop-init : goal.loop-init
loop-init c = record { read = ([], read_start); known = set_width }

pub returns-in_err-count-clause-none : goal.returns-in_err-count-clause-none
returns-in_err-count-clause-none c = rw c.from_residual.ensures (c.in_err-count.ensures.none c.args.format)

pub returns-in_err-kind-clause-none : goal.returns-in_err-kind-clause-none
returns-in_err-kind-clause-none c =
    rw c.from_residual-in_err-kind.ensures (c.in_ok-count.ensures.some c.args.format
    ∙ read_none c.loop.invariant.read.1 (omega (arith, c.loop-test.true)) c.in_err-kind.ensures.none)

pub returns-in_err-width-clause-none : goal.returns-in_err-width-clause-none
returns-in_err-width-clause-none c =
    rw c.from_residual-in_err-width.ensures (c.in_ok-count.ensures.some c.args.format
    ∙ read_none c.loop.invariant.read.1 (omega (arith, c.loop-test.true)) (c.in_ok-kind.ensures.some ∙ c.in_err-width.ensures.none c.in_ok-kind.fields.now))

pub returns-then-fields-width-clause-none : goal.returns-then-fields-width-clause-none
returns-then-fields-width-clause-none c =
    let known : HasWidth (fields_at c.in_ok-kind.kind) c.if-kind-last.width = elim c.if-kind-last.branch [
      | then-kind-last+in_ok-width w ↦ subst (HasWidth (fields_at c.in_ok-kind.kind)) (sym w.width-is) w.in_ok-width.ensures.some
      | else-kind-last w ↦ same_width (sym w.if-kind-last.false) (sym w.width-is) c.loop.invariant.known
    ] in
    c.in_ok-count.ensures.some c.args.format
    ∙ read_none c.loop.invariant.read.1 (omega (arith, c.loop-test.true)) (c.in_ok-kind.ensures.some ∙ known.short c.in_ok-kind.fields.now c.if-fields-width.true)

pub loop-preserved : goal.loop-preserved
loop-preserved c =
    let known : HasWidth (fields_at c.in_ok-kind.kind) c.if-kind-last.width = elim c.if-kind-last.branch [
      | then-kind-last+in_ok-width w ↦ subst (HasWidth (fields_at c.in_ok-kind.kind)) (sym w.width-is) w.in_ok-width.ensures.some
      | else-kind-last w ↦ same_width (sym w.if-kind-last.false) (sym w.width-is) c.loop.invariant.known
    ] in
    let read = c.loop.invariant.read in
    let next = known.whole c.in_ok-kind.fields.now c.if-fields-width.false in
    record {
      read = (
        read.0 ++ next.0 ∷ [],
        read_next read.1 (omega (arith, c.loop-test.true)) (c.in_ok-kind.ensures.some ∙ next.1
            ∙ ap (λ (l : List ℕ). Some (next.0, l)) (sym (from_place c.if-kind-last.width c.in_ok-kind.fields.now))),
      );
      known = known;
    }

pub returns-clause-some : goal.returns-clause-some
returns-clause-some c =
    let read = c.loop.invariant.read in (
      read.0,
      c.in_ok-count.ensures.some c.args.format ∙ read_all read.1 (omega (arith, c.loop-test.false)),
      omega (arith, read.1.so_many, read.1.within, c.loop-test.false),
    )
