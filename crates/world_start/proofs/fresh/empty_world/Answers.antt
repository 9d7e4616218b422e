use Rattle.std.proofs.Common.{Err, ap}
use Rattle.world_start.specs.Opening.{HasFaulted}
use Rattle.world_start.proofs.Carried.{read_closed, read_gates}
use Rattle.world_start.proofs.Faults.{some_of_one}
use Rattle.world_start.proofs.Recovered.{if_err}
use Rattle.world_start.proofs.fresh.empty_world.Goals as goal

pub returns-in_err-bytes-clause-device : goal.returns-in_err-bytes-clause-device
returns-in_err-bytes-clause-device g c =
    if_err c.from_residual.result c.in_err-bytes.field-0.0 (HasFaulted g.D.Disk.faults c.args.files.now c.read_files.new.files) c.from_residual.ensures.1
    (λ device. some_of_one _ _ (c.in_err-bytes.ensures.fault (ap (λ r. Err r) device)))

pub returns-clause-gates : goal.returns-clause-gates
returns-clause-gates g c = λ honest.
    let bytes = c.in_ok-bytes.bytes in
    read_gates g.D.Disk c.args.files.now bytes.image_a.items bytes.image_b.items bytes.log_a.items bytes.log_b.items (c.in_ok-bytes.ensures.read honest) c.gates_are_reported.ensures
    c.read_files.new.files (c.in_ok-bytes.ensures.kept honest) c.gates_of.result c.gates_of.ensures.image_a c.gates_of.ensures.image_b
    c.gates_of.ensures.log_a c.gates_of.ensures.log_b

pub returns-clause-closed : goal.returns-clause-closed
returns-clause-closed g c = λ honest.
    let bytes = c.in_ok-bytes.bytes in
    read_closed g.D.Disk c.args.files.now bytes.image_a.items bytes.image_b.items bytes.log_a.items bytes.log_b.items (c.in_ok-bytes.ensures.read honest)
    (c.are_closed.ensures.0 c.if-not-are_closed.false)
