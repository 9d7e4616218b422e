use Rattle.std.proofs.Common.{[], ◌∷◌, ◌++◌, ap, ◌∙◌, arith, length-append}
use Rattle.circular_buffer.specs.Buffer.{Buffer}
use Rattle.action_log.specs.declared.record.Record.{Record}
use Rattle.trial_crashes.proofs.QueueLemmas.{keep_all}
use Rattle.trial_crashes.proofs.log_trial.push.Goals as goal

pub returns-clause-items : goal.returns-clause-items
returns-clause-items c =
    let queue = c.args.queue.now in
    let all = queue.items ++ c.args.added ∷ [] in
    ap (λ (b : Buffer Record). b.items) c.push_back.ensures.items ∙ keep_all queue.capacity all (omega (arith, length-append queue.items (c.args.added ∷ []), c.requires))
