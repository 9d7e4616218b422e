use Rattle.std.proofs.lemmas.Grind.{common_steps}
use Rattle.std.proofs.Common.{ap, arith, All, length}
use Rattle.engine.proofs.Words.{one_more, whole}
use Rattle.engine.proofs.engine.words.words_of.Goals as goal

pub read-requires : goal.read-requires
read-requires g c = (let same = ap length c.loop-i.invariant.0 in omega (arith, same, c.loop-i-test.true, c.len-cells.ensures.cells))

pub loop-i-preserved : goal.loop-i-preserved
loop-i-preserved g c = grind (arith, common_steps, one_more)

pub returns-clause-words : goal.returns-clause-words
returns-clause-words g c = grind (arith, common_steps, whole)

pub returns-clause-limit : goal.returns-clause-limit
returns-clause-limit g c = grind (arith, common_steps, All, whole)
