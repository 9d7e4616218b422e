use Rattle.std.proofs.Common.{◌≡◌, ◌∙◌, ◌<◌, ℕ, List, not, map, sym, ap, length, arith}
use Rattle.packed_marks.specs.Bits.{marked, chunks}
use Rattle.packed_marks.specs.Marks.{marks_of}
use Rattle.packed_marks.proofs.BitLemmas.{written_back}
use Rattle.packed_marks.proofs.MarkLemmas.{length-marks_of, marks_of-opposites}
use Rattle.packed_marks.proofs.marks.PackedMarks.set_opposites.Goals as goal

pub invert-requires : goal.invert-requires
invert-requires c =
    let count = sym (length-marks_of c.self.inside.cells c.self.inside.words.items) ∙ ap length c.self.view_is in
    let other_count = sym (length-marks_of c.others.inside.cells c.others.inside.words.items) ∙ ap length c.others.view_is in
    let cells : c.self.inside.cells ≡ c.others.inside.cells = omega arith in
    ap length c.deref_mut.ensures.value ∙ c.self.invariant.words_length ∙ ap chunks cells ∙ sym c.others.invariant.words_length ∙ sym (ap length c.deref.ensures.value)

pub returns : goal.returns
returns c =
    let cells = c.self.inside.cells in
    let count = sym (length-marks_of cells c.self.inside.words.items) ∙ ap length c.self.view_is in
    let other_count = sym (length-marks_of c.others.inside.cells c.others.inside.words.items) ∙ ap length c.others.view_is in
    let same : cells ≡ c.others.inside.cells = omega arith in
    let long = c.self.invariant.words_length in
    let words_long : length c.deref_mut.result.now ≡ length c.self.inside.words.items = ap length c.deref_mut.ensures.value in
    let other_long : length c.deref.result.now ≡ length c.others.inside.words.items = ap length c.deref.ensures.value in
    let other_chunks : length c.deref.result.now ≡ chunks cells = other_long ∙ c.others.invariant.words_length ∙ ap chunks (sym same) in
    let inverted : c.deref_mut-2.result.now ≡ c.invert.new.others =
    c.deref_mut-2.ensures.value ∙ written_back c.self.inside.words.len c.invert.new.others _ (omega (arith, c.invert.ensures.words, c.deref_mut.ensures.len)) in
    let opposite : (i : ℕ) → i < cells → marked c.clear_spare.new.words i ≡ not (marked c.others.inside.words.items i) = λ i l.
    c.clear_spare.ensures.cells i l ∙ ap (λ (list : List ℕ). marked list i) inverted
    ∙ (c.invert.ensures.marks i (omega arith) ∙ ap (λ (list : List ℕ). not (marked list i)) c.deref.ensures.value) in
    let long_enough : length c.clear_spare.new.words ≡ c.self.inside.words.len = omega (arith, c.clear_spare.ensures.words, c.deref_mut.ensures.len) in
    ap (marks_of cells) (written_back c.self.inside.words.len c.clear_spare.new.words _ long_enough)
    ∙ marks_of-opposites cells c.clear_spare.new.words c.others.inside.words.items opposite
    ∙ ap (λ (n : ℕ). map not (marks_of n c.others.inside.words.items)) same ∙ ap (map not) c.others.view_is
