use Rattle.world_ticks.proofs.AfterLemmas.{after_actions-append, written-accepted_writes, length-after_actions, length-after_ticks}
use Rattle.world_ticks.proofs.after.actions_go_on.Goals as goal

pub returns-clause-append : goal.returns-clause-append
returns-clause-append c = after_actions-append

pub returns-clause-writes : goal.returns-clause-writes
returns-clause-writes c = written-accepted_writes

pub returns-clause-lengths : goal.returns-clause-lengths
returns-clause-lengths c = length-after_actions

pub returns-clause-cells : goal.returns-clause-cells
returns-clause-cells c = length-after_ticks
