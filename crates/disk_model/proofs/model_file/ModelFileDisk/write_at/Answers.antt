use Rattle.std.proofs.Common.{◌≤◌, ◌∙◌, ap, arith, true, length, replicate}
use Rattle.disk_model.specs.Disk.{overwritten}
use Rattle.disk_model.specs.FileState.{after_fault}
use Rattle.disk_model.specs.FileKept.{same_file}
use Rattle.disk_model.proofs.OutcomeLemmas.{torn_outcome}
use Rattle.disk_model.proofs.ModelFileLemmas.{kept_written}
use Rattle.disk_model.proofs.model_file.ModelFileDisk.write_at.Goals as goal

pub returns-in-Ok-clause-writes : goal.returns-in-Ok-clause-writes
returns-in-Ok-clause-writes c =
    let is = c.self.view_is in
    let bytes = c.args.bytes.now in
    let wrote = c.in-Ok.ensures in
    record {
      durable = wrote.durable ∙ ap (λ file. file.durable) is;
      content = wrote.content ∙ ap (λ file. overwritten file.content c.args.at bytes) is;
      unsynced = wrote.marks ∙ ap (λ file. overwritten file.unsynced c.args.at (replicate (length bytes) true)) is;
      faults = ap (λ file. file.faults) is;
    }

pub returns-in-Ok-clause-crash : goal.returns-in-Ok-clause-crash
returns-in-Ok-clause-crash c left outcome = torn_outcome c.args.self.now _ c.args.at c.args.bytes.now left c.requires (returns-in-Ok-clause-writes c) outcome

pub returns-in-Ok-clause-called : goal.returns-in-Ok-clause-called
returns-in-Ok-clause-called c = returns-in-Ok-clause-writes c

pub returns-in-Err-clause-fails : goal.returns-in-Err-clause-fails
returns-in-Err-clause-fails c =
    let is = c.self.view_is in
    let same = c.in-Err.ensures in
    rw c.failed.ensures.err
    (c.failed.ensures.file
    ∙ ap after_fault
    (same_file _ _ (same.durable ∙ ap (λ file. file.durable) is) (same.same_content ∙ ap (λ file. file.content) is) (same.same_marks ∙ ap (λ file. file.unsynced) is) (ap (λ file. file.faults) is)))

pub returns-in-Err-clause-called : goal.returns-in-Err-clause-called
returns-in-Err-clause-called c = rw c.failed.ensures.err (rw c.failed.ensures.err at (returns-in-Err-clause-fails c))

pub invariant_of-self-inside : goal.invariant_of-self-inside
invariant_of-self-inside c =
    let file = c.self.inside in
    let wrote = c.in-Ok.ensures in
    let inside : c.args.at ≤ length file.content.items = omega (arith, c.requires, ap (λ state. length state.content) c.self.view_is) in (
      rw (wrote.durable, wrote.content, wrote.marks, c.min-self-inside.ensures)
          (kept_written file.durable.items file.content.items file.unsynced.items file.first_unsynced _ _ c.args.at
          c.args.bytes.now inside (λ i. omega (arith, c.type_inv.bytes i)) file.kept wrote.room),
      tt,
    )
