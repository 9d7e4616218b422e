-- Inside: for the proofs of this crate's private functions.
-- The laws of the crates below, for the files of a core.
use Rattle.std.specs.Prelude.{ℕ, List}
use Rattle.image_files.specs.Files.{ReportsShut}
use Rattle.action_log.specs.Spellings.{ReadsOnce}
use Rattle.recovery.specs.Restart.{CrashRestarts}
use Rattle.restart.specs.Start.{is_shut}
use Rattle.engine.specs.Laws.{KeeperLaws as WorldKeeperLaws}
use Rattle.world_core.specs.State.{core_disk}

abbrev pub KeeperLaws : Type 0
KeeperLaws = WorldKeeperLaws core_disk

-- the files of a core are safe, a crash begins the next start, and each file has only one reading
pub record SafetyLaws : Type 0 where
  pub keepers : KeeperLaws
  pub reported : (file : List ℕ) → ReportsShut (is_shut file) file
  pub restarts : CrashRestarts
  pub once : ReadsOnce
