use Rattle.std.proofs.Common.{rules, ◌≡◌}
use Rattle.world_actions.specs.declared.refusal.Refusal.TheVariants.{Device}
use Rattle.disk_model.proofs.FaultLemmas.{second_grew, third_grew, fourth_grew}
use Rattle.disk_model.proofs.four_files.FourFiles.read_all.Goals as goal

pub returns-in_err-read_all-2-clause-fault : goal.returns-in_err-read_all-2-clause-fault
returns-in_err-read_all-2-clause-fault g c is_device =
    let refusal : c.in_err-read_all-2.field-0.0 ≡ Device = search rules in
    second_grew _ _ _ _ _ _ c.in_ok-read_all.ensures.faults (rw refusal at c.in_err-read_all-2.ensures.faults)

pub returns-in_err-read_all-3-clause-fault : goal.returns-in_err-read_all-3-clause-fault
returns-in_err-read_all-3-clause-fault g c is_device =
    let refusal : c.in_err-read_all-3.field-0.0 ≡ Device = search rules in
    third_grew _ _ _ _ _ _ _ c.in_ok-read_all.ensures.faults c.in_ok-read_all-2.ensures.faults (rw refusal at c.in_err-read_all-3.ensures.faults)

pub returns-in_err-read_all-4-clause-fault : goal.returns-in_err-read_all-4-clause-fault
returns-in_err-read_all-4-clause-fault g c is_device =
    let refusal : c.in_err-read_all-4.field-0.0 ≡ Device = search rules in
    fourth_grew _ _ _ _ _ _ _ _ c.in_ok-read_all.ensures.faults c.in_ok-read_all-2.ensures.faults c.in_ok-read_all-3.ensures.faults (rw refusal at c.in_err-read_all-4.ensures.faults)
