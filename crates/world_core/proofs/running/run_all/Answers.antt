use Rattle.std.proofs.Common.{◌≡◌, [], ◌∷◌, ◌++◌, rules}
use Rattle.world_core.proofs.Headline.{has_begun, has_run_more}
use Rattle.world_core.proofs.running.run_all.Goals as goal

pub loop-asked-init : goal.loop-asked-init
loop-asked-init g c =
    has_begun c.cores_stay_written.ensures c.args.cells c.new-answers.result.items c.in_ok-core.core c.in_ok-core.ensures.fresh c.in_ok-core.ensures.begins c.new-answers.ensures.items

pub loop-asked-preserved : goal.loop-asked-preserved
loop-asked-preserved g c =
    let answers = c.loop-asked.answers.items in
    let pushed : c.push.new.self.items ≡ answers ++ c.step-given.result ∷ [] = search rules in
    has_run_more c.safety_laws.ensures c.cores_stay_written.ensures c.args.cells c.loop-asked.core c.step-given.new.self
    c.loop-asked.yielded answers c.push.new.self.items c.in-Some.asked c.step-given.result c.loop-asked.invariant
    (λ past h. (c.step-given.ensures.keeps past h, record { exact = c.step-given.ensures.exact past h; does = c.step-given.ensures.does; progress = c.step-given.ensures.progress }))
    c.step-given.ensures.cells pushed
