use Rattle.std.proofs.Common.{List, ◌++◌, ap, ◌∙◌}
use Rattle.workers.specs.declared.item.Item.{Item}
use Rattle.workers.specs.Imaging.{Imaging}
use Rattle.workers.specs.Logging.{Logging}
use Rattle.worker_steps.proofs.Staying.{stays_sound}
use Rattle.worker_steps.proofs.together.run_world.Goals as goal

pub returns-clause-sound : goal.returns-clause-sound
returns-clause-sound g c = λ honest.
    let D = g.D.Disk in
    let begun = c.in_ok-world.ensures.begun in
    let kept = c.run.ensures in
    let world = c.run.new.self in
    let more : List Item = kept.mutator.items.0 in
    stays_sound D c.args.opened world.mutator world.checkpointer world.log_writer
    (kept.mutator.opening ∙ begun.words)
    (kept.checkpointer.opening ∙ ap (λ (p : Imaging g.row.D.Denot). p.opening) begun.checkpointer)
    (kept.log_writer.opening ∙ ap (λ (w : Logging g.row.D.Denot). w.opening) begun.log_writer)
    (more, kept.mutator.items.1 ∙ ap (λ (l : List Item). l ++ more) begun.pushed)
    (kept.sound honest)
