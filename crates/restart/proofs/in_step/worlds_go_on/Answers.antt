use Rattle.std.proofs.Common.{rules}
use Rattle.restart.proofs.Beginning.{recovery_begins, fresh_begins}
use Rattle.restart.proofs.Stages.{image_step, log_step, cover}
use Rattle.restart.proofs.Played.{tick_goes_on, mark_goes_on, all_acknowledged}
use Rattle.restart.proofs.in_step.worlds_go_on.Goals as goal

pub returns : goal.returns
returns c = search (rules, all_acknowledged, cover, fresh_begins, image_step, log_step, mark_goes_on, recovery_begins, tick_goes_on)
