use Rattle.std.proofs.Common.{Err, ap}
use Rattle.std.proofs.lemmas.Bool.{false≢true}
use Rattle.world_start.specs.Fresh.{AreClosed}
use Rattle.world_start.proofs.Faults.{some_of_one}
use Rattle.world_folder.proofs.NewWorldLemmas.{device_named, first_open_read}
use Rattle.world_folder.proofs.new_world.closed_bytes.Goals as goal

pub returns-in-Err-clause-device : goal.returns-in-Err-clause-device
returns-in-Err-clause-device g c = λ is. some_of_one _ _ (c.in-Err.ensures.fault (ap Err (device_named c.in-Err.refusal (let same = is in cc))))

pub returns-clause-reported : goal.returns-clause-reported
returns-clause-reported g c = λ honest.
    let bytes = c.in-Ok.bytes in
    let not_closed : ¬ AreClosed bytes.image_a.items bytes.image_b.items bytes.log_a.items bytes.log_b.items = (λ closed. false≢true (c.if-are_closed.ensures.1 closed)) in (
      c.first_open.result.now,
      c.in_ok-path.ensures,
      first_open_read g.D.Disk.content c.args.files.now bytes.image_a.items bytes.image_b.items bytes.log_a.items bytes.log_b.items (c.in-Ok.ensures.read honest)
          c.first_open.result.now (c.first_open.ensures not_closed),
    )
