use Rattle.disk_model.specs.declared.world_file.WorldFile.TheVariants.{ImageB, LogA, LogB}
use Rattle.world_folder.proofs.NewWorldFilesLemmas.{unmade}
use Rattle.world_folder.proofs.new_world_files.make_absent.Goals as goal

pub returns-in_err-make_if_absent-clause-made : goal.returns-in_err-make_if_absent-clause-made
returns-in_err-make_if_absent-clause-made g c = λ honest. record {
  with_image_a = g.F.Source.history c.make_if_absent.new.folder;
  with_image_b = g.F.Source.history c.make_if_absent.new.folder;
  with_log_a = g.F.Source.history c.make_if_absent.new.folder;
  image_a = c.make_if_absent.ensures.acts honest;
  image_b = unmade ImageB c.args.files.now.image_b _;
  log_a = unmade LogA c.args.files.now.log_a _;
  log_b = unmade LogB c.args.files.now.log_b _;
}

pub returns-in_err-make_if_absent-2-clause-made : goal.returns-in_err-make_if_absent-2-clause-made
returns-in_err-make_if_absent-2-clause-made g c = λ honest. record {
  with_image_a = g.F.Source.history c.make_if_absent.new.folder;
  with_image_b = g.F.Source.history c.make_if_absent-2.new.folder;
  with_log_a = g.F.Source.history c.make_if_absent-2.new.folder;
  image_a = c.make_if_absent.ensures.acts honest;
  image_b = c.make_if_absent-2.ensures.acts honest;
  log_a = unmade LogA c.args.files.now.log_a _;
  log_b = unmade LogB c.args.files.now.log_b _;
}
