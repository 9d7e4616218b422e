use Rattle.worker_threads.specs.Opening.{files_of}
use Rattle.world_server.proofs.ServedLemmas.{served_sound, served_filled, given_back, given_reason, printed_on}
use Rattle.world_server.proofs.served.serve_world.Goals as goal

pub returns-clause-sound : goal.returns-clause-sound
returns-clause-sound g c = λ honest.
    let D = g.D.Disk in
    let made = c.in_ok-recovered.ensures in
    let e = c.serve_opened.ensures in
    served_sound D c.args.files c.in_ok-recovered.recovered c.in_ok-recovered.opened c.serve_opened.result
    (λ s. s.recovered) (λ s. s.stopped.workers.mutator) (λ s. s.stopped.workers.checkpointer) (λ s. s.stopped.workers.log_writer)
    (made.stands honest) (made.keeps honest) made.tick e.recovered (e.sound honest) e.acked

pub returns-clause-left : goal.returns-clause-left
returns-clause-left g c = λ honest.
    given_back g.D.Disk c.args.files _ c.in_ok-recovered.recovered c.serve_opened.result (c.in_ok-recovered.ensures.keeps honest) c.serve_opened.ensures.left

pub returns-clause-printed : goal.returns-clause-printed
returns-clause-printed g c = λ known.
    printed_on c.in_ok-recovered.recovered _ c.serve_opened.result (λ s. s.recovered) (λ s. s.stopped.workers.mutator) (λ s. s.stopped.workers.checkpointer) (λ s. s.stopped.workers.log_writer)
    _ _ _ (c.in_ok-recovered.ensures.printed known) (c.serve_opened.ensures.printed known) c.serve_opened.ensures.recovered c.serve_opened.ensures.left

pub returns-clause-reason : goal.returns-clause-reason
returns-clause-reason g c = given_reason g.D.Disk c.args.checks c.args.files _ c.in_ok-recovered.recovered c.serve_opened.result c.serve_opened.ensures.left

pub returns-clause-filled : goal.returns-clause-filled
returns-clause-filled g c = λ honest.
    served_filled g.D.Disk c.args.files _ c.in_ok-recovered.recovered c.serve_opened.result (λ s. files_of s.stopped.workers.checkpointer.images s.stopped.workers.log_writer.log)
    (c.in_ok-recovered.ensures.filled honest) (c.serve_opened.ensures.filled honest) c.serve_opened.ensures.left
