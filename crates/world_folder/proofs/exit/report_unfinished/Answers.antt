use Rattle.std.specs.Process.{exit_status}
use Rattle.world_folder.proofs.EndingLemmas.{status_by_error}
use Rattle.world_folder.proofs.exit.report_unfinished.Goals as goal

pub returns-in-Some : goal.returns-in-Some
returns-in-Some g c = status_by_error c.args.statuses c.args.unfinished.why c.in-Some.error (exit_status c.report_error.result) c.in-Some.ensures c.report_error.ensures
