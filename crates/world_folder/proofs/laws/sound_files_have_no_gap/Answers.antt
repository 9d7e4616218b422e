use Rattle.world_folder.proofs.LostLemmas.{begins_within}
use Rattle.world_folder.proofs.laws.sound_files_have_no_gap.Goals as goal

pub returns : goal.returns
returns c = λ image_a image_b log_a log_b a b cells ticks acknowledged reads_a reads_b sound. (
  begins_within sound.recovery.tick log_a a reads_a sound.log_a_begins,
  begins_within sound.recovery.tick log_b b reads_b sound.log_b_begins,
)
