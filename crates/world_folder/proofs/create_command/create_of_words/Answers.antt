use Rattle.std.proofs.Common.{inl, refl}
use Rattle.world_folder.proofs.CreateLemmas.{ends_before}
use Rattle.world_folder.proofs.create_command.create_of_words.Goals as goal

pub returns-in_err-listed-clause-left : goal.returns-in_err-listed-clause-left
returns-in_err-listed-clause-left g c = λ honest honest_files.
    ends_before g.F.Folder.identity g.F.File.Disk _ c.in_err-listed.field-0.0 c.from_residual.result c.from_residual.ensures.1
    (λ failed none. inl (none, refl))
