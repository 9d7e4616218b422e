use Rattle.std.proofs.Common.{ap, arith}
use Rattle.disk_model.specs.FileKept.{same_file}
use Rattle.disk_model.proofs.model_file.ModelFile.failed.Goals as goal

pub returns-clause-file : goal.returns-clause-file
returns-clause-file g c =
    let is = c.self.view_is in
    same_file _ _ (ap (λ file. file.durable) is) (ap (λ file. file.content) is) (ap (λ file. file.unsynced) is) (omega (arith, c.saturating_add-self-inside.ensures, ap (λ file. file.faults) is))
