use Rattle.std.proofs.Common.{◌∙◌, ◌<◌, ◌/◌, ◌%◌, ℕ, Bool, List, false, sym, ap, length, get_or, arith}
use Rattle.std.proofs.lemmas.List.{get_or_read}
use Rattle.packed_marks.specs.Bits.{is_set}
use Rattle.packed_marks.proofs.MarkLemmas.{length-marks_of, get_or-marks_of}
use Rattle.packed_marks.proofs.marks.PackedMarks.is_set.Goals as goal

pub index-requires : goal.index-requires
index-requires c =
    let count = sym (length-marks_of c.self.inside.cells c.self.inside.words.items) ∙ ap length c.self.view_is in
    omega (arith, c.self.invariant.words_length)

pub returns : goal.returns
returns c =
    let count = sym (length-marks_of c.self.inside.cells c.self.inside.words.items) ∙ ap length c.self.view_is in
    let below : c.args.i < c.self.inside.cells = omega arith in
    let word = get_or_read c.self.inside.words.items (c.args.i / 64) c.index.result.now (omega (arith, c.self.invariant.words_length)) c.index.ensures 0 in
    c.has_bit.ensures ∙ ap (λ (z : ℕ). is_set z (c.args.i % 64)) word
    ∙ sym (get_or-marks_of c.self.inside.cells c.self.inside.words.items c.args.i below)
    ∙ ap (λ (marks : List Bool). get_or marks c.args.i false) c.self.view_is
