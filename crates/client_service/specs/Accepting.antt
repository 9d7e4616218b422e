-- How connections are accepted.
use Rattle.std.specs.Prelude.{ℕ, ◌*◌, min, if◌then◌else◌, ◌==◌}
use Rattle.disk_model.specs.declared.four_files.FourFiles.{FourFiles}
use Rattle.worker_threads.specs.Opening.{GivesBack}
use Rattle.client_service.specs.declared.server.NotServed.{NotServed}
use Rattle.client_service.specs.declared.server.NotServed.TheVariants.{NotBegun, Left}

-- how many milliseconds accepting waits after this pause, of which 0 is none
abbrev pub next_pause : ℕ → ℕ
next_pause pause = if pause == 0 then 10 else min (2 * pause) 1000

-- a server whose workers aren't started gives these files back, as far as no worker ran
abbrev pub LeavesFiles : {D : Type 0} → FourFiles D → NotServed D → Type 0
LeavesFiles files (NotBegun refused) = GivesBack files refused
LeavesFiles files Left = Unit {0}
