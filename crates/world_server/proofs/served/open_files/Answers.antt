use Rattle.std.proofs.Common.{sym, subst}
use Rattle.disk_model.proofs.FilledLemmas.{each_filled, read_filled}
use Rattle.worker_threads.specs.Opening.{files_of}
use Rattle.world_server.specs.Served.{KeepsWorld, StandsOpened}
use Rattle.world_server.proofs.ServedLemmas.{stands_opened, keeps_world}
use Rattle.world_server.proofs.served.open_files.Goals as goal

pub returns-in-Ok-start_world-clause-stands : goal.returns-in-Ok-start_world-clause-stands
returns-in-Ok-start_world-clause-stands g c = λ honest.
    let D = g.D.Disk in
    let begun = c.in-Ok.found.begun in
    let opened = c.in-Ok-start_world.opened in
    subst (λ tick. StandsOpened D c.args.files tick opened.front.live opened.images opened.log) (sym c.ended.ensures)
    (stands_opened D c.args.files begun.engine begun.from opened.front.live opened.images opened.log opened.ended
    (c.in-Ok.ensures.read honest) (c.in-Ok-start_world.ensures.stands honest) c.in-Ok-start_world.ensures.ended)

pub returns-in-Ok-start_world-clause-keeps : goal.returns-in-Ok-start_world-clause-keeps
returns-in-Ok-start_world-clause-keeps g c = λ honest.
    let D = g.D.Disk in
    let begun = c.in-Ok.found.begun in
    let opened = c.in-Ok-start_world.opened in
    let read = c.in-Ok.ensures.read honest in
    subst (λ tick. KeepsWorld D c.args.files tick (files_of opened.images opened.log)) (sym c.ended.ensures)
    (keeps_world D c.args.files begun.engine begun.from _ read (c.in-Ok-start_world.ensures.sound honest read.newest))

pub returns-in-Err-start_world-clause-left : goal.returns-in-Err-start_world-clause-left
returns-in-Err-start_world-clause-left g c = λ honest.
    let D = g.D.Disk in
    let begun = c.in-Ok.found.begun in
    let read = c.in-Ok.ensures.read honest in
    subst (λ tick. KeepsWorld D c.args.files tick c.in-Err-start_world.files) (sym c.ended.ensures)
    (keeps_world D c.args.files begun.engine begun.from c.in-Err-start_world.files read (c.in-Err-start_world.ensures.sound honest read.newest))

pub returns-in-Ok-start_world-clause-filled : goal.returns-in-Ok-start_world-clause-filled
returns-in-Ok-start_world-clause-filled g c = λ honest.
    each_filled g.D.Disk c.args.files c.in-Ok.found.begun.engine.files _ (read_filled g.D.Disk c.args.files _ (c.in-Ok.ensures.kept honest)) (c.in-Ok-start_world.ensures.filled honest)

pub returns-in-Err-start_world-clause-filled : goal.returns-in-Err-start_world-clause-filled
returns-in-Err-start_world-clause-filled g c = λ honest.
    each_filled g.D.Disk c.args.files c.in-Ok.found.begun.engine.files c.in-Err-start_world.files
    (read_filled g.D.Disk c.args.files _ (c.in-Ok.ensures.kept honest)) (c.in-Err-start_world.ensures.filled honest)

pub returns-in-Err-clause-filled : goal.returns-in-Err-clause-filled
returns-in-Err-clause-filled g c = λ honest. read_filled g.D.Disk c.args.files c.in-Err.files (c.in-Err.ensures.kept honest)
