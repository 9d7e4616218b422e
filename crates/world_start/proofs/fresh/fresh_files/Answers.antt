use Rattle.std.proofs.Common.{◌≡◌, sym, subst, ◌∙◌, [], arith, replicate}
use Rattle.file_format.specs.declared.slot.Slot.TheVariants.{A}
use Rattle.file_format.specs.Slot.{of_slot}
use Rattle.disk_model.specs.declared.four_files.FourFiles.{FourFiles}
use Rattle.action_log.specs.Segment.{OpenSegment, IsSegment}
use Rattle.engine.proofs.Rest.{log_is_ready}
use Rattle.world_start.specs.Fresh.{AreMade, AreNotMade}
use Rattle.world_start.proofs.Made.{no_items, start_failed}
use Rattle.world_start.proofs.fresh.fresh_files.Goals as goal

pub returns-in-Ok-clause-made : goal.returns-in-Ok-clause-made
returns-in-Ok-clause-made g c = λ honest.
    let D = g.D.Disk in
    let file = D.content in
    let e = c.start.ensures in
    let last = c.start.new.self in
    let begun = c.in_ok-engine.ensures.begun honest in
    let zeros = replicate c.args.cells 0 in
    let order = c.in_order.ensures in
    let rest = c.in-Ok.ensures.rest in
    let ended : last.ended ≡ 0 = e.ended.0 ∙ begun.ended in
    let since : last.since ≡ 0 = e.ended.1 ∙ begun.since in
    let ready = log_is_ready last.log last.queue last.ended last.since rest.rests order.queue_end order.within c.in-Ok.ensures.up in
    let settled = c.log_outcomes.ensures.settled last.log (file last.files.log_a) (file last.files.log_b) (order.log_fits honest) ready.ready rest.started in
    let base : last.log.base ≡ 0 = (let all = ready.all in omega (arith, all, ended, since)) in
    let first : last.log.current ≡ A = c.in-Ok.ensures.first begun.starting begun.queue in
    subst (AreMade D c.args.files c.args.cells) (sym c.into_files.ensures) (record {
      closed = begun.closed;
      sound = λ synced. c.followed_files_are_sound.ensures.started last zeros [] 0 rest.started (e.follows honest zeros [] 0 (begun.follows synced));
      synced = λ synced.
          (let on = e.follows honest zeros [] 0 (begun.follows synced) in
          let images = c.images_stay.ensures.rests last.images on.images last.files.image_a last.files.image_b on.has_images c.in-Ok.ensures.idle in
          let log = c.log_outcomes.ensures.rests last.log last.files.log_a last.files.log_b on.place on.has_log ready.ready in
          record { image_a = images.0; image_b = images.1; log_a = log.0; log_b = log.1 });
      log = subst (λ s. IsSegment (of_slot s (file last.files.log_a) (file last.files.log_b)) (OpenSegment 0 [])) first
          (subst (λ ticks. IsSegment (of_slot last.log.current (file last.files.log_a) (file last.files.log_b)) (OpenSegment 0 ticks)) (no_items settled.0 (settled.1 ∙ ready.count ∙ since))
          (subst (λ n. IsSegment (of_slot last.log.current (file last.files.log_a) (file last.files.log_b)) (OpenSegment n settled.0)) base settled.2));
    })

pub returns-in-Err-clause-left : goal.returns-in-Err-clause-left
returns-in-Err-clause-left g c = λ honest.
    let D = g.D.Disk in
    let begun = c.in_ok-engine.ensures.begun honest in
    let zeros = replicate c.args.cells 0 in
    subst (λ (files : FourFiles g.row.D.Denot). AreNotMade D c.args.files c.args.cells c.in-Err.refusal files) (sym c.into_files-in-Err.ensures)
    (start_failed D c.keeper_laws.ensures c.args.files c.args.cells c.start.new.self c.in-Err.refusal c.in-Err.ensures.refused
    (λ synced. c.start.ensures.follows honest zeros [] 0 (begun.follows synced)))
