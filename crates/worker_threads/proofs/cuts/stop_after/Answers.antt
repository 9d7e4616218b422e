use Rattle.worker_threads.proofs.Stopping.{begun_stays_sound}
use Rattle.worker_threads.proofs.cuts.stop_after.Goals as goal

pub returns : goal.returns
returns g c = record {
  sound = λ honest.
      let ended = c.stop-stopped.ensures in
      let met = c.meet_stopped.ensures in
      begun_stays_sound g.D.Disk c.args.opened c.args.every _ _ _ _ _ _ _
      c.in_ok-workers.ensures.begun ended.mutator ended.checkpointer ended.log_writer met.mutator met.checkpointer met.log_writer (met.sound honest);
}
