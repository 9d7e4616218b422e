use Rattle.std.proofs.Common.{◌≡◌, ◌∙◌, None, subst}
use Rattle.std.specs.Prelude.{IfOk}
use Rattle.world_folder.specs.Lost.{lost_in}
use Rattle.world_folder.specs.declared.lost.OnLoss.TheVariants.{Refuse}
use Rattle.world_server.specs.Served.{RecoversTo}
use Rattle.world_server.specs.FolderRun.{LeavesFiles}
use Rattle.world_server.proofs.FolderRunLemmas.{if_served, leaves_files, newest_served, whole_served, stops_served, settings_followed}
use Rattle.world_server.proofs.serving.serve_files.Goals as goal

pub returns-clause-left : goal.returns-clause-left
returns-clause-left g c = λ honest.
    subst (λ files. LeavesFiles g.D.Disk files c.ended-left.result.0) c.hold_back.ensures.same
    (leaves_files g.D.Disk honest c.hold_back.new.files c.serve_world-served.result _ c.ended-left.ensures.left (c.serve_world-served.ensures.sound honest)
    (c.serve_world-served.ensures.left honest) (c.serve_world-served.ensures.filled honest))

pub returns-clause-recovered : goal.returns-clause-recovered
returns-clause-recovered g c = λ honest.
    if_served g.D.Disk c.serve_world-served.result _ c.ended-left.ensures.left _
    (subst (λ files. IfOk c.serve_world-served.result (λ s. RecoversTo g.D.Disk.content files s.stopped.workers.mutator.opening s.recovered)) c.hold_back.ensures.same
    (c.serve_world-served.ensures.recovered honest))

pub returns-clause-newest : goal.returns-clause-newest
returns-clause-newest g c =
    if_served g.D.Disk c.serve_world-served.result _ c.ended-left.ensures.left _
    (newest_served g.D.Disk c.serve_world-served.result c.checks-checks.result c.args.guard c.args.service.now.accepts_loss
    c.checks-checks.ensures.guard c.checks-checks.ensures.refused c.serve_world-served.ensures.newest)

pub returns-clause-settings : goal.returns-clause-settings
returns-clause-settings g c =
    if_served g.D.Disk c.serve_world-served.result _ c.ended-left.ensures.left _
    (settings_followed g.D.Disk c.serve_world-served.result c.args.service.now c.due_after-every.result.0 c.admission-admission.result.clients
    c.admission-admission.result.idle c.due_after-every.ensures c.admission-admission.ensures.clients c.admission-admission.ensures.idle
    c.serve_world-served.ensures.every c.serve_world-served.ensures.all c.serve_world-served.ensures.idle)

pub returns-clause-whole : goal.returns-clause-whole
returns-clause-whole g c = λ honest asked.
    let refuses = c.checks-checks.ensures.lost ∙ asked in
    if_served g.D.Disk c.serve_world-served.result _ c.ended-left.ensures.left _
    (subst (λ files. IfOk c.serve_world-served.result (λ s. lost_in g.D.Disk.content Refuse s.recovered.tick s.recovered.from files ≡ None)) c.hold_back.ensures.same
    (whole_served g.D.Disk c.serve_world-served.result c.hold_back.new.files c.checks-checks.result.lost refuses (c.serve_world-served.ensures.whole honest refuses)))

pub returns-clause-stops : goal.returns-clause-stops
returns-clause-stops g c =
    if_served g.D.Disk c.serve_world-served.result _ c.ended-left.ensures.left _
    (stops_served g.D.Disk c.serve_world-served.result c.ended-left.result.1 _ c.ended-left.ensures.stops c.finish.ensures.other)
