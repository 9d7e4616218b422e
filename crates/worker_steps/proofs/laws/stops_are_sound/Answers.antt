use Rattle.action_log.specs.Logs.{Writing}
use Rattle.worker_steps.proofs.Below.{Laws}
use Rattle.worker_steps.proofs.Ended.{FilesAre, ended}
use Rattle.worker_steps.proofs.laws.stops_are_sound.Goals as goal

pub returns : goal.returns
returns g c = λ m p w.
    let D = g.D.Disk in
    let laws : Laws = record {
      events = c.events_keep.ensures;
      whole = c.whole_events_keep.ensures;
      accepted = c.answers_are_ticks.ensures.accepted;
      append = c.actions_go_on.ensures.append;
      cells = c.actions_go_on.ensures.cells;
    } in
    let files : FilesAre D = record {
      left = λ writer images stands. c.images_stay.ensures.left writer.keeper images writer.image_a writer.image_b stands;
      newest = λ writer images stands. c.images_stay.ensures.newest writer.keeper images writer.image_a writer.image_b stands;
      idle = λ writer images stands rest. c.images_stay.ensures.idle writer.keeper images writer.image_a writer.image_b stands rest;
      logs = λ log logs stands. c.log_outcomes.ensures.reads log.keeper log.a log.b (record { journal = Writing logs; left = 0 }) stands;
    } in
    ended D laws files m p w (c.law_of_recovery.ensures p.images.image_a p.images.image_b w.log.a w.log.b)
