use Rattle.std.proofs.Common.{◌≡◌, ◌⊎◌, inl, inr, sym, ap, ◌∙◌}
use Rattle.image_files.specs.declared.phase.Phase.TheVariants.{Down}
use Rattle.image_files.specs.Progress.{Progress, begun_keeper, newest_tick}
use Rattle.engine.specs.World.{World}
use Rattle.engine.specs.Refusals.{MayMark}
use Rattle.engine.proofs.Following.{mark_follows}
use Rattle.serial_world.proofs.Playing.{by_none, by_some, begun_works, marked_rests, image_is}
use Rattle.serial_world.proofs.state.SerialState.checkpoint_if_due.Goals as goal

pub returns-then-is_none-clause-serves : goal.returns-then-is_none-clause-serves
returns-then-is_none-clause-serves g c = λ honest first ticks f.
    let D = g.D.Disk in
    let old = c.args.self.now.engine in
    let acked = c.args.self.now.acked in
    let may = by_none c.mark_refusal.result (MayMark old) c.if-is_none.ensures c.mark_refusal.ensures.allowed in
    let marked = mark_follows D c.event_laws.ensures c.keeper_laws.ensures old c.begin_round.new.self first ticks acked may.started may.running may.idle may.news
    c.in_order.ensures.cells c.in_order.ensures.most c.begin_round.ensures.begun f.follows in
    let rest = marked_rests D old c.begin_round.new.self c.write_image.new.self c.write_log.new.self c.requires.rest c.begin_round.ensures.begun
    c.write_image.ensures.runs c.write_image.ensures.over c.write_log.ensures.runs c.write_log.ensures.rests in
    let over = ap (λ (w : World g.row.D.Denot). w.log.starting) c.write_image.ensures.runs.rest ∙ (ap (λ (w : World g.row.D.Denot). w.log.starting) c.begin_round.ensures.begun.1 ∙ may.started) in
    record {
      started = rest.started;
      running = rest.running;
      follows = c.write_log.ensures.runs.follows honest (inl over) first ticks acked (c.write_image.ensures.runs.follows honest first ticks acked marked.follows);
    }

pub returns-then-is_none-clause-image : goal.returns-then-is_none-clause-image
returns-then-is_none-clause-image g c = λ honest first ticks f due.
    let D = g.D.Disk in
    let old = c.args.self.now.engine in
    let acked = c.args.self.now.acked in
    let begun = c.begin_round.new.self in
    let written = c.write_image.new.self in
    let last = c.write_log.new.self in
    let may = by_none c.mark_refusal.result (MayMark old) c.if-is_none.ensures c.mark_refusal.ensures.allowed in
    let marked = mark_follows D c.event_laws.ensures c.keeper_laws.ensures old begun first ticks acked may.started may.running may.idle may.news
    c.in_order.ensures.cells c.in_order.ensures.most c.begin_round.ensures.begun f.follows in
    let over = ap (λ (w : World g.row.D.Denot). w.log.starting) c.write_image.ensures.runs.rest ∙ (ap (λ (w : World g.row.D.Denot). w.log.starting) c.begin_round.ensures.begun.1 ∙ may.started) in
    let follows = c.write_log.ensures.runs.follows honest (inl over) first ticks acked (c.write_image.ensures.runs.follows honest first ticks acked marked.follows) in
    let images : last.images ≡ written.images = ap (λ (w : World g.row.D.Denot). w.images) c.write_log.ensures.runs.rest in
    let is_begun : begun.images ≡ begun_keeper old.ended old.images = ap (λ (w : World g.row.D.Denot). w.images) c.begin_round.ensures.begun.1 in
    let ended : last.ended ≡ old.ended = ap (λ (w : World g.row.D.Denot). w.ended) c.write_log.ensures.runs.rest
    ∙ (ap (λ (w : World g.row.D.Denot). w.ended) c.write_image.ensures.runs.rest ∙ ap (λ (w : World g.row.D.Denot). w.ended) c.begin_round.ensures.begun.1) in
    elim c.write_image.ensures.over [
      | inl idle ↦ elim (c.write_image.ensures.runs.ticks.over idle) [
        | inl was ↦ absurd (begun_works old.ended old.images (sym (ap (λ (k : Progress). k.phase) is_begun) ∙ was))
        | inr opened ↦ inr (
            let newest = ap (λ (k : Progress). newest_tick k.newest) images ∙ (ap newest_tick opened.1 ∙ ap (λ (k : Progress). k.tick) is_begun) in
            image_is D c.keeper_laws.ensures last first ticks acked (c.write_log.ensures.runs.started over) last.ended (ended ∙ sym newest) follows)
      ]
      | inr down ↦ inl (ap (λ (k : Progress). k.phase) images ∙ down)
    ]

pub returns-else-is_none-clause-image : goal.returns-else-is_none-clause-image
returns-else-is_none-clause-image g c = λ honest first ticks f due.
    let D = g.D.Disk in
    let old = c.args.self.now.engine in
    let acked = c.args.self.now.acked in
    elim (by_some c.mark_refusal.result ((old.images.phase ≡ Down) ⊎ (old.ended ≡ newest_tick old.images.newest)) c.if-is_none.ensures (c.mark_refusal.ensures.rests c.requires.rest c.requires.up)) [
      | inl down ↦ inl down
      | inr newest ↦ inr (image_is D c.keeper_laws.ensures old first ticks acked c.requires.rest.started old.ended newest f.follows)
    ]
