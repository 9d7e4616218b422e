use Rattle.std.proofs.Common.{Err, sym, ap, subst, refl, ◌∙◌}
use Rattle.world_server.specs.FolderRun.{IsLeftBy}
use Rattle.world_server.specs.declared.serving.Left.TheVariants.{Read}
use Rattle.world_server.proofs.serving.ended.Goals as goal

pub returns-in-Err-NotRecovered-clause-left : goal.returns-in-Err-NotRecovered-clause-left
returns-in-Err-NotRecovered-clause-left g c =
    subst (λ served. IsLeftBy g.D.Disk served (Read c.failure_of_files-failure.new.files)) (sym (c.in-Err-NotRecovered.is ∙ ap Err c.in-Err-NotRecovered.field-0-is))
    (c.failure_of_files-failure.new.files, refl, c.failure_of_files-failure.ensures.kept)
