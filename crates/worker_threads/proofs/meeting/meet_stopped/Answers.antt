use Rattle.worker_threads.proofs.Hearing.{heard_of_down}
use Rattle.worker_threads.proofs.meeting.meet_stopped.Goals as goal

pub returns-clause-sound : goal.returns-clause-sound
returns-clause-sound g c = λ honest.
    c.stops_are_sound.ensures c.meet_workers.new.mutator c.meet_workers.new.checkpointer c.meet_workers.new.log_writer honest
    c.meet_workers.ensures.is_mutator c.meet_workers.ensures.is_checkpointer c.meet_workers.ensures.is_log_writer c.meet_workers.ensures.met

pub returns-clause-heard : goal.returns-clause-heard
returns-clause-heard g c = heard_of_down c.meet_workers.new.log_writer.reported_down.numbers c.meet_workers.new.mutator.heard.numbers c.meet_workers.new.log_writer.down
    c.meet_workers.ensures.is_log_writer.reports c.meet_workers.ensures.met.heard

pub returns-clause-played : goal.returns-clause-played
returns-clause-played g c = record { history = c.meet_workers.ensures.is_mutator.history; in_turn = c.meet_workers.ensures.is_mutator.in_turn }

pub returns-clause-filled : goal.returns-clause-filled
returns-clause-filled g c = λ honest.
    let images = c.meet_workers.ensures.is_checkpointer.filled honest in
    let log = c.meet_workers.ensures.is_log_writer.filled honest in
    record { image_a = images.0; image_b = images.1; log_a = log.0; log_b = log.1 }
