use Rattle.std.proofs.Common.{rules}
use Rattle.std.proofs.Common.{◌≡◌, ◌⊎◌, inl, inr, true, false, sym, ap, ◌∙◌}
use Rattle.image_files.specs.declared.phase.Phase.{Phase}
use Rattle.image_files.specs.declared.phase.Phase.TheVariants.{Idle, Down}
use Rattle.engine.specs.World.{World}
use Rattle.disk_model.proofs.FilledLemmas.{each_filled}
use Rattle.engine.proofs.Faults.{images_grew, logs_grew, run_failed, start_is_down}
use Rattle.engine.proofs.Rest.{no_work, all_follow}
use Rattle.engine.proofs.engine.Engine.start.Goals as goal
use Rattle.engine.proofs.engine.Engine.start.Goals.{then-log_is_down-via-then-log_is_down, then-log_is_down-via-else-log_is_down+then-is_starting}

not_down : (phase : Phase) → (phase ≡ Idle) ⊎ (phase ≡ Down) → (phase ≡ Down → ⊥) → phase ≡ Idle
not_down phase over up = elim over [ inl idle ↦ idle | inr down ↦ absurd (up down) ]

pub returns-then-images_are_down-clause-device : goal.returns-then-images_are_down-clause-device
returns-then-images_are_down-clause-device g c = λ up log_up.
    let faults = g.D.Disk.faults in
    let old = c.args.self.now in
    let new = c.write_image.new.self in
    images_grew faults old.files new.files
    (search (rules, run_failed))

pub returns-then-log_is_down-clause-follows : goal.returns-then-log_is_down-clause-follows
returns-then-log_is_down-clause-follows g c = λ honest first ticks acknowledged f.
    let idle = not_down c.write_image.new.self.images.phase c.write_image.ensures.over (λ down. let e = c.if-images_are_down.ensures.down.1 down in absurd (let h = e in cc)) in
    c.write_log.ensures.runs.follows honest (inr idle) first ticks acknowledged (c.write_image.ensures.runs.follows honest first ticks acknowledged f)

pub returns-then-log_is_down-clause-device : goal.returns-then-log_is_down-clause-device
returns-then-log_is_down-clause-device g c = λ up log_up.
    let faults = g.D.Disk.faults in
    let old = c.args.self.now in
    let mid = c.write_image.new.self in
    let new = c.write_log.new.self in
    let down : new.log.down ≡ true = search (rules, start_is_down) in
    let was : mid.log.down ≡ false = ap (λ (w : World g.row.D.Denot). w.log.down) c.write_image.ensures.runs.rest ∙ log_up in
    logs_grew faults old.files new.files
    (search (rules, run_failed))

pub returns-clause-acknowledges : goal.returns-clause-acknowledges
returns-clause-acknowledges g c = λ honest first ticks acknowledged f.
    let last = c.write_log.new.self in
    let idle = not_down c.write_image.new.self.images.phase c.write_image.ensures.over (λ down. let e = c.if-images_are_down.ensures.down.1 down in absurd (let h = e in cc)) in
    all_follow g.D.Disk c.event_laws.ensures c.keeper_laws.ensures last first ticks acknowledged
    (sym c.if-is_starting.ensures.starting) (no_work last.log last.queue c.write_log.ensures.rests (sym c.if-log_is_down.ensures))
    (c.write_log.ensures.runs.follows honest (inr idle) first ticks acknowledged (c.write_image.ensures.runs.follows honest first ticks acknowledged f))

pub returns-then-log_is_down-clause-filled : goal.returns-then-log_is_down-clause-filled
returns-then-log_is_down-clause-filled g c = λ honest. each_filled g.D.Disk _ _ _ (c.write_image.ensures.runs.filled honest) (c.write_log.ensures.runs.filled honest)

pub returns-clause-filled : goal.returns-clause-filled
returns-clause-filled g c = λ honest. each_filled g.D.Disk _ _ _ (c.write_image.ensures.runs.filled honest) (c.write_log.ensures.runs.filled honest)
