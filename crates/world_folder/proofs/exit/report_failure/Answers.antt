use Rattle.std.proofs.Common.{subst, sym}
use Rattle.std.specs.Process.{exit_status}
use Rattle.world_folder.specs.declared.failure.Failure.{Failure}
use Rattle.world_folder.specs.Ending.{IsStatusOfFailure}
use Rattle.world_folder.proofs.exit.report_failure.Goals as goal

pub returns-in-Unreadable : goal.returns-in-Unreadable
returns-in-Unreadable g c =
    subst (λ (failure : Failure). IsStatusOfFailure c.args.statuses failure (exit_status c.report_error.result)) (sym c.in-Unreadable.is) c.report_error.ensures

pub returns-in-NoPort : goal.returns-in-NoPort
returns-in-NoPort g c =
    subst (λ (failure : Failure). IsStatusOfFailure c.args.statuses failure (exit_status c.report_error-in-NoPort.result)) (sym c.in-NoPort.is) c.report_error-in-NoPort.ensures
