use Rattle.std.proofs.Common.{◌∙◌, sym, ap, length}
use Rattle.packed_marks.proofs.MarkLemmas.{length-marks_of}
use Rattle.packed_marks.proofs.marks.PackedMarks.len.Goals as goal

pub returns : goal.returns
returns c = sym (length-marks_of c.self.inside.cells c.self.inside.words.items) ∙ ap length c.self.view_is
