use Rattle.std.proofs.Common.{refl, sym, ap, ◌∙◌, get_or}
use Rattle.disk_model.proofs.LeavingLemmas.{filled_one, filled_kept}
use Rattle.disk_model.proofs.model_file.ModelFile.filled_at.Goals as goal

pub returns-then-uncertain : goal.returns-then-uncertain
returns-then-uncertain c = filled_one c.args.byte c.args.self.now c.args.place c.requires (c.if-uncertain.ensures.0 refl)

pub returns-else-uncertain : goal.returns-else-uncertain
returns-else-uncertain c =
    ap (λ l. get_or l c.args.place 0) c.durable.ensures
    ∙ filled_kept c.args.byte c.args.self.now c.args.place c.requires (λ h. (let e = sym (c.if-uncertain.ensures.1 h) in absurd (let g = e in cc)))
