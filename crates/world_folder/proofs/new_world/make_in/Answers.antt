use Rattle.std.proofs.Common.{subst, ℕ, List}
use Rattle.disk_model.specs.FourFiles.{fault_counts}
use Rattle.engine.specs.Runs.{SomeGrew}
use Rattle.world_start.proofs.Carried.{read_closed}
use Rattle.world_folder.proofs.NewWorldLemmas.{device_named, made_on, unmade_on}
use Rattle.world_folder.proofs.new_world.make_in.Goals as goal

pub returns-in-Ok-write_first-clause-made : goal.returns-in-Ok-write_first-clause-made
returns-in-Ok-write_first-clause-made g c = λ honest.
    let bytes = c.in-Ok.bytes in
    let closed = read_closed g.D.Disk c.args.files bytes.image_a.items bytes.image_b.items bytes.log_a.items bytes.log_b.items (c.in-Ok.ensures.read honest) c.in-Ok.ensures.closed in
    made_on g.D.Disk c.args.words c.args.files c.closed_bytes.new.files c.in-Ok-write_first.files closed (c.in-Ok.ensures.kept honest) (c.in-Ok-write_first.ensures.made honest)

pub returns-in-Err-write_first-clause-unmade : goal.returns-in-Err-write_first-clause-unmade
returns-in-Err-write_first-clause-unmade g c = λ honest.
    let bytes = c.in-Ok.bytes in
    let closed = read_closed g.D.Disk c.args.files bytes.image_a.items bytes.image_b.items bytes.log_a.items bytes.log_b.items (c.in-Ok.ensures.read honest) c.in-Ok.ensures.closed in
    unmade_on g.D.Disk c.args.folder.now c.args.words c.args.files c.closed_bytes.new.files c.in-Err-write_first.files c.in-Err-write_first.refusal closed (c.in-Ok.ensures.kept honest)
    (c.in-Err-write_first.ensures.unmade honest c.args.folder.now)

pub returns-in-Err-write_first-clause-device : goal.returns-in-Err-write_first-clause-device
returns-in-Err-write_first-clause-device g c = λ is.
    let refused = c.in-Err-write_first in
    subst (λ (counts : List ℕ). SomeGrew counts (fault_counts g.D.Disk.faults refused.files)) c.in-Ok.ensures.no_fault (refused.ensures.device (device_named refused.refusal is))
