use Rattle.std.proofs.Common.{◌≡◌, inl, inr, sym, ap, subst, ◌∙◌, Ok, Err}
use Rattle.world_actions.specs.declared.refusal.Refusal.TheVariants.{Device, NoMemory}
use Rattle.recovery.specs.Recovery.{Recovers}
use Rattle.recovery.specs.Recovered.{recovery_of_answer}
use Rattle.world_start.specs.Opening.{HasFaulted, IsRefused}
use Rattle.world_start.proofs.Carried.{read_gates, chosen}
use Rattle.world_start.proofs.Faults.{some_of_one}
use Rattle.world_start.proofs.Recovered.{if_err, recovers_on, not_a_device}
use Rattle.world_start.proofs.reading.read_world.Goals as goal

pub returns-in_err-bytes-clause-device : goal.returns-in_err-bytes-clause-device
returns-in_err-bytes-clause-device g c =
    if_err c.from_residual.result c.in_err-bytes.field-0.0 (HasFaulted g.D.Disk.faults c.args.files.now c.read_files.new.files) c.from_residual.ensures.1
    (λ device. some_of_one _ _ (c.in_err-bytes.ensures.fault (ap (λ r. Err r) device)))

pub returns-in_err-found-clause-refused : goal.returns-in_err-found-clause-refused
returns-in_err-found-clause-refused g c =
    let bytes = c.in_ok-bytes.bytes in
    let refusal = c.in_err-found.field-0.0 in
    if_err c.from_residual-in_err-found.result refusal (IsRefused g.D.Disk c.args.files.now) c.from_residual-in_err-found.ensures.1 (elim c.in_err-found.ensures.refused [
      | inl none ↦ inl none
      | inr refused ↦ inr (inr (chosen g.D.Disk c.args.files.now (Err refusal) bytes.image_a.items bytes.image_b.items bytes.log_a.items bytes.log_b.items
          (recovers_on (Err refusal) c.deref.ensures.value c.deref-2.ensures.value c.deref-3.ensures.value c.deref-4.ensures.value refused) c.in_ok-bytes.ensures.read))
    ])

pub returns-in_err-found-clause-device : goal.returns-in_err-found-clause-device
returns-in_err-found-clause-device g c =
    let refusal = c.in_err-found.field-0.0 in
    if_err c.from_residual-in_err-found.result refusal (HasFaulted g.D.Disk.faults c.args.files.now c.read_files.new.files) c.from_residual-in_err-found.ensures.1
    (λ device. elim c.in_err-found.ensures.refused [
      | inl none ↦ absurd (let e : NoMemory ≡ Device = sym none ∙ device in let h = e in cc)
      | inr refused ↦ absurd (not_a_device _ _ _ _ (subst (λ r. Recovers c.deref.result.now c.deref-2.result.now c.deref-3.result.now c.deref-4.result.now (Err r)) device refused))
    ])

pub returns-clause-found : goal.returns-clause-found
returns-clause-found g c =
    let found = c.in_ok-found.found in
    let bytes = c.in_ok-bytes.bytes in
    chosen g.D.Disk c.args.files.now (Ok (recovery_of_answer found)) bytes.image_a.items bytes.image_b.items bytes.log_a.items bytes.log_b.items
    (recovers_on (Ok (recovery_of_answer found)) c.deref.ensures.value c.deref-2.ensures.value c.deref-3.ensures.value
    c.deref-4.ensures.value c.in_ok-found.ensures.recovered) c.in_ok-bytes.ensures.read

pub returns-clause-gates : goal.returns-clause-gates
returns-clause-gates g c = λ honest.
    let bytes = c.in_ok-bytes.bytes in
    read_gates g.D.Disk c.args.files.now bytes.image_a.items bytes.image_b.items bytes.log_a.items bytes.log_b.items (c.in_ok-bytes.ensures.read honest) c.gates_are_reported.ensures
    c.read_files.new.files (c.in_ok-bytes.ensures.kept honest) c.gates_of.result c.gates_of.ensures.image_a c.gates_of.ensures.image_b
    c.gates_of.ensures.log_a c.gates_of.ensures.log_b
