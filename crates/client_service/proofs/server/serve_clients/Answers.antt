use Rattle.worker_threads.proofs.Stopping.{begun_stays_sound, begun_stays_filled}
use Rattle.client_service.proofs.server.serve_clients.Goals as goal

pub returns-clause-sound : goal.returns-clause-sound
returns-clause-sound g c = λ honest.
    let ended = c.stop-stopped.ensures in
    let met = c.meet_stopped.ensures in
    begun_stays_sound g.D.Disk c.args.opened c.args.every _ _ _ _ _ _ _
    c.in_ok-workers.ensures.begun ended.mutator ended.checkpointer ended.log_writer met.mutator met.checkpointer met.log_writer (met.sound honest)

pub returns-clause-filled : goal.returns-clause-filled
returns-clause-filled g c = λ honest.
    let ended = c.stop-stopped.ensures in
    let met = c.meet_stopped.ensures in
    begun_stays_filled g.D.Disk c.args.opened c.args.every _ _ _ _ _ _ _
    c.in_ok-workers.ensures.begun ended.mutator ended.checkpointer ended.log_writer met.mutator met.checkpointer met.log_writer (met.filled honest)
