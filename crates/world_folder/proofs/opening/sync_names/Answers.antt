use Rattle.std.proofs.Common.{◌≡◌, ◌∷◌, ◌∙◌, List, rules, subst, sym}
use Rattle.world_folder.specs.History.{Act, NamesSynced}
use Rattle.world_folder.specs.Left.{Leaves}
use Rattle.world_folder.proofs.opening.sync_names.Goals as goal

pub returns-in-Err-clause-left : goal.returns-in-Err-clause-left
returns-in-Err-clause-left g c = λ honest made leaves.
    let synced : g.F.Source.history c.sync_names-named.new.self ≡ NamesSynced ∷ g.F.Source.history c.args.folder.now = search rules in
    subst (λ (acts : List Act). Leaves made acts) (sym (c.in-Err.ensures.failed honest ∙ synced)) leaves
