use Rattle.std.proofs.Common.{List, inl, inr, rules, subst, sym}
use Rattle.world_folder.specs.CreateCommand.{IsMadeIn}
use Rattle.world_folder.specs.History.{Act}
use Rattle.world_folder.proofs.CreateLemmas.{ends_before, left_none}
use Rattle.world_folder.proofs.create_command.create.Goals as goal

pub returns-in_err-unguarded-clause-left : goal.returns-in_err-unguarded-clause-left
returns-in_err-unguarded-clause-left g c = λ honest honest_files.
    ends_before g.F.Folder.identity g.F.File.Disk _ c.in_err-unguarded.field-0.0 c.from_residual.result c.from_residual.ensures.1
    (λ failed none. inl (left_none g.F.Folder.identity g.F.File.Disk c.args.words failed.files _ none))

pub returns-in-Err-clause-left : goal.returns-in-Err-clause-left
returns-in-Err-clause-left g c = λ honest honest_files. inr (record {
  of_print = c.failure_of_print.ensures.print;
  made = c.in_ok-files.files;
  all = search rules;
  world = subst (λ (acts : List Act). IsMadeIn g.F.Folder.identity g.F.File.Disk c.args.words c.in_ok-files.files (g.F.Source.history c.args.folder.now) acts)
      (sym (c.in-Err.ensures.failed honest)) (c.in_ok-files.ensures.made honest honest_files);
})
