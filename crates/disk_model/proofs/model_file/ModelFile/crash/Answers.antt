use Rattle.std.proofs.Common.{◌-◌, ◌∙◌, refl, subst, sym, List, Bool, arith}
use Rattle.disk_model.specs.FileState.{Marked}
use Rattle.disk_model.proofs.OutcomeLemmas.{synced_leaves}
use Rattle.disk_model.proofs.ModelFileLemmas.{none_left}
use Rattle.disk_model.proofs.model_file.ModelFile.crash.Goals as goal

pub returns-clause-synced : goal.returns-clause-synced
returns-clause-synced c = record {
  durable = refl;
  content = c.copy_from.ensures.items ∙ c.deref-2.ensures.value;
  none_unsynced = λ place. subst (λ (table : List Bool). ¬ Marked table place) (sym c.clear_from.ensures.marks)
      (none_left c.self.inside.unsynced.items 0 (c.len.result - 0) (λ place below. absurd (omega (arith, below))) place);
}

pub returns-clause-leaves : goal.returns-clause-leaves
returns-clause-leaves c = synced_leaves _ _ (returns-clause-synced c)
