use Rattle.std.proofs.Common.{◌≡◌, ◌⊎◌, inl, inr, ℕ, List, ◌∷◌, ap, ◌∙◌}
use Rattle.disk_model.specs.declared.world_file.WorldFile.{WorldFile}
use Rattle.world_folder.specs.declared.entry.Entry.{Entry}
use Rattle.world_folder.specs.History.{Act, Opened, IsTakenInPart, with_lock}
use Rattle.world_folder.proofs.NewWorldFilesLemmas.{on_error}
use Rattle.world_folder.proofs.own_file.open_there.Goals as goal

taken : (file : WorldFile) (entry : Entry) (bytes : List ℕ) (before mid after : List Act) → mid ≡ Opened file entry bytes ∷ before → (after ≡ mid) ⊎ (after ≡ with_lock file entry mid)
    → (bytes : List ℕ) × IsTakenInPart file (λ entry. Opened file entry bytes) before after
taken file entry bytes before mid after opened (inl same) = (bytes, inr (entry, inl (same ∙ opened)))
taken file entry bytes before mid after opened (inr locked) = (bytes, inr (entry, inr (locked ∙ ap (with_lock file entry) opened)))

pub returns-in_err-opened-clause-failed : goal.returns-in_err-opened-clause-failed
returns-in_err-opened-clause-failed g c = λ honest. on_error c.from_residual-in_err-opened.result (_, inr (_, inl (c.in_ok-handle.ensures.opened honest)))

pub returns-in_err-unless_other-clause-failed : goal.returns-in_err-unless_other-clause-failed
returns-in_err-unless_other-clause-failed g c = λ honest. on_error c.from_residual-in_err-unless_other.result (_, inr (_, inl (c.in_ok-handle.ensures.opened honest)))

pub returns-in_err-disk-clause-failed : goal.returns-in_err-disk-clause-failed
returns-in_err-disk-clause-failed g c = λ honest. on_error c.from_residual-in_err-disk.result (taken _ _ _ _ _ _ (c.in_ok-handle.ensures.opened honest) (c.in_err-disk.ensures.failed honest))
