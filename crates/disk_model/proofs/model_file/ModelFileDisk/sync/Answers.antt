use Rattle.std.proofs.Common.{◌-◌, ◌∙◌, ap, subst, sym, ℕ, List, Bool, take, drop, ◌++◌}
use Rattle.disk_model.specs.FileState.{Marked}
use Rattle.disk_model.proofs.ModelFileLemmas.{synced_content, none_left}
use Rattle.disk_model.proofs.model_file.ModelFileDisk.sync.Goals as goal

pub returns-clause-syncs : goal.returns-clause-syncs
returns-clause-syncs c =
    let file = c.self.inside in
    let content = ap (λ state. state.content) c.self.view_is in
    record {
      synced = record {
        durable = c.copy_from.ensures.items
            ∙ ap (λ (list : List ℕ). take file.first_unsynced file.durable.items ++ drop file.first_unsynced list) c.deref.ensures.value
            ∙ synced_content file.durable.items file.content.items file.unsynced.items file.first_unsynced file.kept.front_durable file.kept.in_order file.kept.front_synced
            ∙ content;
        content = content;
        none_unsynced = λ place.
            subst (λ (table : List Bool). ¬ Marked table place) (sym c.clear_from.ensures.marks)
            (none_left file.unsynced.items file.first_unsynced (c.len.result - file.first_unsynced) file.kept.front_synced place);
      };
      faults = ap (λ state. state.faults) c.self.view_is;
    }

pub returns-clause-called : goal.returns-clause-called
returns-clause-called c = returns-clause-syncs c
