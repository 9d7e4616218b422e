-- The facts on a whole file that follow from its gate.
use Rattle.std.proofs.Common.{rules}
use Rattle.std.proofs.Common.{◌≡◌, ℕ, ◌<◌, List, arith}
use Rattle.std.proofs.lemmas.Grind.{common_steps}
use Rattle.std.proofs.lemmas.Bool.Decides.{nat_tests}
use Rattle.disk_model.specs.Disk.{Torn, Follows}
use Rattle.disk_model.proofs.TornLemmas.{torn_behind_gate}
use Rattle.file_format.specs.Gate.{HasShutGate}
use Rattle.image_files.specs.Image.{Image, image_of}
use Rattle.image_files.specs.Keeper.{AllShut}

pub shut_reads_closed : (file : List ℕ) → HasShutGate file → image_of file ≡ Image.Closed
unfolding image_of
shut_reads_closed file shut = let other = shut.1 in grind (arith, nat_tests, common_steps)

-- writes after the gate leave it
pub follows_shut : (at n : ℕ) (old new : List ℕ → Type 0) → 0 < at → Follows (Torn at n) old new → AllShut old → AllShut new
follows_shut at n old new behind follows shut left outcome = search (rules, torn_behind_gate)
