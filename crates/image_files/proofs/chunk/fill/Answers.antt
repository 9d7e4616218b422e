use Rattle.std.proofs.Common.{rules}
use Rattle.image_files.proofs.ChunkLemmas.{fill_step}
use Rattle.image_files.proofs.chunk.fill.Goals as goal

pub loop-i-preserved : goal.loop-i-preserved
loop-i-preserved c = search (rules, fill_step)
