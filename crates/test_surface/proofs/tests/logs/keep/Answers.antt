use Rattle.std.proofs.Common.{◌≡◌, arith, false, sym, subst}
use Rattle.disk_model.specs.FileState.{FileState}
use Rattle.action_log.specs.declared.progress.Progress.{Progress}
use Rattle.action_log.specs.Progress.{begun}
use Rattle.action_log.specs.Files.{FitsFiles}
use Rattle.test_surface.proofs.tests.logs.keep.Goals as goal

pub returns-clause-fits : goal.returns-clause-fits
returns-clause-fits c =
    let a : FileState = c.in_ok-a.a in
    let b : FileState = c.in_ok-b.b in
    let keeper : c.in_ok-keeper.keeper ≡ begun 0 false false = c.in_ok-keeper.ensures.ok in
    let fits = c.log_outcomes.ensures.made 0 false false a.content b.content (omega arith) (λ e. absurd cc) (λ e. absurd cc) in
    subst (λ (k : Progress). FitsFiles k a.content b.content) (sym keeper) fits
