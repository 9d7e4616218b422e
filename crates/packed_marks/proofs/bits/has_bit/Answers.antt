use Rattle.packed_marks.proofs.BitLemmas.{tests_bit}
use Rattle.packed_marks.proofs.bits.has_bit.Goals as goal

pub returns : goal.returns
returns c = tests_bit c.args.word c.args.bit
