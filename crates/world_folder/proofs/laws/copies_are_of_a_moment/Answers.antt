use Rattle.world_folder.proofs.ForwardLemmas.{copied_at}
use Rattle.world_folder.proofs.laws.copies_are_of_a_moment.Goals as goal

pub returns : goal.returns
returns c = λ file base ticks grows began copy copied. copied_at file base ticks grows began copy copied
