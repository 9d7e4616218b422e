use Rattle.std.proofs.Common.{◌∙◌, ◌<◌, ◌/◌, ℕ, Bool, List, sym, ap, set, length, arith}
use Rattle.std.proofs.lemmas.List.{get_or_read}
use Rattle.packed_marks.specs.Bits.{is_set}
use Rattle.packed_marks.proofs.MarkLemmas.{length-marks_of, marks_of-put, packed-put}
use Rattle.packed_marks.proofs.marks.PackedMarks.put.Goals as goal

pub index-requires : goal.index-requires
index-requires c =
    let count = sym (length-marks_of c.self.inside.cells c.self.inside.words.items) ∙ ap length c.self.view_is in
    omega (arith, c.self.invariant.words_length)

pub index_mut-requires : goal.index_mut-requires
index_mut-requires c =
    let count = sym (length-marks_of c.self.inside.cells c.self.inside.words.items) ∙ ap length c.self.view_is in
    omega (arith, c.self.invariant.words_length)

pub invariant_of-self : goal.invariant_of-self
invariant_of-self c =
    let count = sym (length-marks_of c.self.inside.cells c.self.inside.words.items) ∙ ap length c.self.view_is in
    let below : c.args.i < c.self.inside.cells = omega arith in
    let word = get_or_read c.self.inside.words.items (c.args.i / 64) c.index.result.now (omega (arith, c.self.invariant.words_length)) c.index.ensures 0 in
    packed-put c.self.inside.cells c.self.inside.words.items c.args.i c.with_bit.result c.args.set c.self.invariant below c.with_bit.ensures.here
    (λ j l ne. c.with_bit.ensures.others j l ne ∙ ap (λ (z : ℕ). is_set z j) word)

pub returns : goal.returns
returns c =
    let count = sym (length-marks_of c.self.inside.cells c.self.inside.words.items) ∙ ap length c.self.view_is in
    let below : c.args.i < c.self.inside.cells = omega arith in
    let word = get_or_read c.self.inside.words.items (c.args.i / 64) c.index.result.now (omega (arith, c.self.invariant.words_length)) c.index.ensures 0 in
    marks_of-put c.self.inside.cells c.self.inside.words.items c.args.i c.with_bit.result c.args.set c.self.invariant below c.with_bit.ensures.here
    (λ j l ne. c.with_bit.ensures.others j l ne ∙ ap (λ (z : ℕ). is_set z j) word)
    ∙ ap (λ (marks : List Bool). set marks c.args.i c.args.set) c.self.view_is
