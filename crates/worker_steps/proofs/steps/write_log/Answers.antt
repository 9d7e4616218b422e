use Rattle.std.proofs.Common.{rules, ◌≡◌, ◌<◌, false, inl, inr}
use Rattle.action_log.specs.Progress.{work_of}
use Rattle.worker_steps.proofs.steps.write_log.Goals as goal

pub returns-then-has_work-clause-made : goal.returns-then-has_work-clause-made
returns-then-has_work-clause-made g c =
    let old = c.args.log_writer.now in
    let up : old.down ≡ false = search rules in
    let left : 0 < work_of old.log.keeper old.ring.items = search rules in
    let lowers = λ (stays : c.step.new.self.down ≡ false). c.step.ensures.lowers stays left in
    inr (inl (up, left, assumption))
