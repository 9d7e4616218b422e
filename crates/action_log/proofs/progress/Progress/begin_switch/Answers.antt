use Rattle.std.proofs.Common.{rules}
use Rattle.action_log.proofs.StepLemmas.{switching_call}
use Rattle.action_log.proofs.progress.Progress.begin_switch.Goals as goal

pub returns-then-self-clause-call : goal.returns-then-self-clause-call
returns-then-self-clause-call g c =
    let made = switching_call c.args.self.now c.first_of_switch-self.result c.args.tick c.first_of_switch-self.ensures c.requires.phase c.requires.after_start c.write_header.ensures.call in
    record { fits = made.fits; lasts = made.lasts; faults = search rules; called = search rules }

pub returns-else-self-clause-call : goal.returns-else-self-clause-call
returns-else-self-clause-call g c =
    let made = switching_call c.args.self.now c.first_of_switch-self.result c.args.tick c.first_of_switch-self.ensures c.requires.phase c.requires.after_start c.close.ensures.call in
    record { fits = made.fits; lasts = made.lasts; faults = search rules; called = search rules }
