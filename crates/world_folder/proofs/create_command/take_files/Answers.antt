use Rattle.std.proofs.Common.{inl, refl}
use Rattle.world_folder.proofs.CreateLemmas.{left_found, left_completed}
use Rattle.world_folder.proofs.NewWorldFilesLemmas.{on_error}
use Rattle.world_folder.proofs.create_command.take_files.Goals as goal

pub returns-in_err-open_present-clause-left : goal.returns-in_err-open_present-clause-left
returns-in_err-open_present-clause-left g c = λ honest honest_files.
    on_error c.from_residual.result
    (λ words. left_found g.F.Folder.identity g.F.File.Disk words c.open_present.new.present _ _ (c.in_err-open_present.ensures.part honest))

pub returns-in_err-complete-clause-left : goal.returns-in_err-complete-clause-left
returns-in_err-complete-clause-left g c = λ honest honest_files.
    on_error c.from_residual-in_err-complete.result (λ words. left_completed g.F.Folder.identity g.F.File.Disk words c.open_present.new.present c.complete.new.files _ _ _ _
    (c.in_ok-open_present.ensures.found honest) (c.in_err-complete.ensures.completed honest honest_files) (inl refl))

pub returns-clause-left : goal.returns-clause-left
returns-clause-left g c = λ honest honest_files.
    on_error c.sync_names.result (λ words. left_completed g.F.Folder.identity g.F.File.Disk words c.open_present.new.present c.complete.new.files _ _ _ _
    (c.in_ok-open_present.ensures.found honest) (c.in_ok-complete.ensures.completed honest honest_files) (c.sync_names.ensures.part honest))
