use Rattle.std.proofs.Common.{◌∙◌, sym}
use Rattle.packed_marks.proofs.BitLemmas.{set_same, set_other, clear_same, clear_other}
use Rattle.packed_marks.proofs.bits.with_bit.Goals as goal

pub returns-then-set-clause-here : goal.returns-then-set-clause-here
returns-then-set-clause-here c = set_same c.args.word c.args.bit c.requires ∙ sym c.if-set.true

pub returns-then-set-clause-others : goal.returns-then-set-clause-others
returns-then-set-clause-others c = λ j l ne. set_other c.args.word c.args.bit j c.requires ne

pub returns-else-set-clause-here : goal.returns-else-set-clause-here
returns-else-set-clause-here c = clear_same c.args.word c.args.bit c.requires ∙ sym c.if-set.false

pub returns-else-set-clause-others : goal.returns-else-set-clause-others
returns-else-set-clause-others c = λ j l ne. clear_other c.args.word c.args.bit j c.requires l ne
