use Rattle.std.proofs.Common.{◌∙◌, ap}
use Rattle.disk_model.specs.FileKept.{same_file}
use Rattle.disk_model.proofs.model_file.ModelFile.reserve.Goals as goal

pub returns-in_err-grow-clause-same : goal.returns-in_err-grow-clause-same
returns-in_err-grow-clause-same c =
    let is = c.self.view_is in
    same_file _ _ (c.grow.ensures.items ∙ ap (λ file. file.durable) is) (ap (λ file. file.content) is) (ap (λ file. file.unsynced) is) (ap (λ file. file.faults) is)

pub returns-in_err-grow-2-clause-same : goal.returns-in_err-grow-2-clause-same
returns-in_err-grow-2-clause-same c =
    let is = c.self.view_is in
    same_file _ _ (c.grow.ensures.items ∙ ap (λ file. file.durable) is) (c.grow-2.ensures.items ∙ ap (λ file. file.content) is) (ap (λ file. file.unsynced) is) (ap (λ file. file.faults) is)

pub returns-in_err-grow-3-clause-same : goal.returns-in_err-grow-3-clause-same
returns-in_err-grow-3-clause-same c =
    let is = c.self.view_is in
    same_file _ _ (c.grow.ensures.items ∙ ap (λ file. file.durable) is) (c.grow-2.ensures.items ∙ ap (λ file. file.content) is)
    (c.grow-3.ensures.items ∙ ap (λ file. file.unsynced) is) (ap (λ file. file.faults) is)

pub returns-clause-same : goal.returns-clause-same
returns-clause-same c =
    let is = c.self.view_is in
    same_file _ _ (c.grow.ensures.items ∙ ap (λ file. file.durable) is) (c.grow-2.ensures.items ∙ ap (λ file. file.content) is)
    (c.grow-3.ensures.items ∙ ap (λ file. file.unsynced) is) (ap (λ file. file.faults) is)
