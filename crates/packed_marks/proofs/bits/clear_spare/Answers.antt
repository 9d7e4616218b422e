use Rattle.packed_marks.proofs.BitLemmas.{spare_cells, spare_clear}
use Rattle.packed_marks.proofs.bits.clear_spare.Goals as goal
use Rattle.std.proofs.Common.{length-set, arith}

pub returns-then-rest-ne0-clause-cells : goal.returns-then-rest-ne0-clause-cells
returns-then-rest-ne0-clause-cells c = λ i l. spare_cells c.args.words.now c.args.cells i c.requires c.if-rest-ne0.true l

pub returns-then-rest-ne0-clause-spare : goal.returns-then-rest-ne0-clause-spare
returns-then-rest-ne0-clause-spare c = λ i l m. spare_clear c.args.words.now c.args.cells i c.requires c.if-rest-ne0.true l (let same = length-set c.args.words.now in omega (arith, same))
