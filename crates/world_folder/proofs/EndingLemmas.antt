-- The exit status of a world that wasn't made.
use Rattle.std.proofs.Common.{◌≡◌, ℕ, Some, subst}
use Rattle.std.specs.declared.io.Error.{Error}
use Rattle.world_folder.specs.declared.exit.Statuses.{Statuses}
use Rattle.world_folder.specs.declared.unfinished.Why.{Why}
use Rattle.world_folder.specs.declared.unfinished.Why.TheVariants as why
use Rattle.world_folder.specs.Ending.{IsStatusOfError, IsStatusOfUnfinished, error_of_why}

same_error : (one other : Error) → Some one ≡ Some other → one ≡ other
same_error one other e = cc

pub status_by_error : (statuses : Statuses) (reason : Why) (error : Error) (status : ℕ) → Some error ≡ error_of_why reason
    → IsStatusOfError statuses error status → IsStatusOfUnfinished statuses reason status
status_by_error statuses why.NoMemory error status e is = absurd cc
status_by_error statuses (why.File file) error status e is = subst (λ (x : Error). IsStatusOfError statuses x status) (same_error error file.error e) is
