use Rattle.std.proofs.Common.{rules}
use Rattle.image_files.proofs.ChunkLemmas.{encode_step}
use Rattle.image_files.proofs.chunk.encode.Goals as goal

pub loop-i-preserved : goal.loop-i-preserved
loop-i-preserved c = search (rules, encode_step)
