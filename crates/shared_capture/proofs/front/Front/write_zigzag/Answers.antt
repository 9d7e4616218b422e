use Rattle.std.proofs.Common.{◌≡◌, ◌≢◌, ℕ, ◌<◌, List, ◌∙◌, ◌/◌, ◌%◌, sym, ap, set, get_or, true, length, vec_len, subst, rules, arith}
use Rattle.std.proofs.lemmas.List.{get_or_read}
use Rattle.std.specs.Arc.{arc_value}
use Rattle.packed_marks.specs.Bits.{is_set}
use Rattle.shared_capture.specs.Seats.{ListsChanges}
use Rattle.shared_capture.specs.States.{FrontState}
use Rattle.shared_capture.proofs.Places.{not_apart}
use Rattle.shared_capture.proofs.Fronts.{zigzag_touched, zigzag_written}
use Rattle.shared_capture.proofs.front.Front.write_zigzag.Goals as goal

pub invariant_of-self : goal.invariant_of-self
invariant_of-self g c =
    let i = c.args.i in
    let w = c.with_bit.result in
    let marks = c.self.inside.marks.items in
    let away = c.self.inside.away.items in
    let ok = c.self.invariant.0 in
    let inside : i < vec_len (arc_value c.self.inside.table).shared.key.live = omega (arith, ap (λ (z : FrontState). length z.live) c.self.view_is, ok.fits.0, c.requires.inside) in
    let read : c.index.result.now ≡ get_or marks (i / 64) 0 = get_or_read marks (i / 64) c.index.result.now (omega (arith, ok.fits.2, ap length ok.marks_are, inside)) c.index.ensures 0 in
    let put : c.index-2.result.now ≡ get_or away (i / 64) 0 = get_or_read away (i / 64) c.index-2.result.now
    (omega (arith, (ok.away_packed c.requires.kind).words_length, inside)) c.index-2.ensures 0 in
    let differs : get_or marks (i / 64) 0 ≢ w = λ same. not_apart c.has_bit-second.result
    (c.has_bit-second.ensures ∙ (ap (λ (z : ℕ). is_set z (i % 64)) (read ∙ same) ∙ c.with_bit.ensures.here)) in
    let others : (j : ℕ) → j < 64 → j ≢ i % 64 → is_set w j ≡ is_set (get_or away (i / 64) 0) j = λ j l ne. c.with_bit.ensures.others j l ne ∙ ap (λ (z : ℕ). is_set z j) put in
    let listed : ListsChanges marks (set away (i / 64) w) c.list_change.new.changed.items =
    subst (λ (z : List ℕ). ListsChanges marks (set z (i / 64) w) c.list_change.new.changed.items) c.as_slice-2.ensures.value
    (subst (λ (z : List ℕ). ListsChanges z (set c.as_slice-2.result.now (i / 64) w) c.list_change.new.changed.items) c.as_slice.ensures.value
    (c.list_change.ensures.listed w (subst (λ (z : List ℕ). get_or z (i / 64) 0 ≢ w) (sym c.as_slice.ensures.value) differs))) in (
      zigzag_written _ _ _ _ _ _ _ _ _ ok i c.args.v w inside c.requires.limit c.has_bit-second.result c.requires.kind (search rules) c.with_bit.ensures.here others,
      λ e. (listed, omega (arith, (c.self.invariant.1 e).1, c.list_change.ensures.room)),
    )

pub returns-clause-put : goal.returns-clause-put
returns-clause-put g c = record {
  live = search rules;
  touched = zigzag_touched _ _ _ _ c.store_value.new.seat _ _ _ _ c.self.invariant.0 _ c.args.i c.args.v c.has_bit-second.result
      c.requires.kind c.store_value.ensures ∙ ap (λ (w : FrontState). set w.touched c.args.i true) c.self.view_is;
  same = search rules;
  steps = search rules;
}
