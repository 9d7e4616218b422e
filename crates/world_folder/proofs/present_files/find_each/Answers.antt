use Rattle.std.proofs.Common.{inl, inr, ap, refl}
use Rattle.world_folder.proofs.NewWorldFilesLemmas.{on_error}
use Rattle.world_folder.proofs.present_files.find_each.Goals as goal

pub returns-in_err-find_named-clause-part : goal.returns-in_err-find_named-clause-part
returns-in_err-find_named-clause-part g c = λ honest. on_error c.from_residual.result (record {
  with_image_a = g.F.Source.history c.find_named.new.folder;
  with_image_b = g.F.Source.history c.find_named.new.folder;
  with_log_a = g.F.Source.history c.find_named.new.folder;
  image_a = inr (c.in_err-find_named.ensures.failed, c.in_err-find_named.ensures.part honest);
  image_b = inr (ap (λ files. files.image_b) c.requires, inl refl);
  log_a = inr (ap (λ files. files.log_a) c.requires, inl refl);
  log_b = inr (ap (λ files. files.log_b) c.requires, inl refl);
})

pub returns-in_err-find_named-2-clause-part : goal.returns-in_err-find_named-2-clause-part
returns-in_err-find_named-2-clause-part g c = λ honest. on_error c.from_residual-in_err-find_named-2.result (record {
  with_image_a = g.F.Source.history c.find_named.new.folder;
  with_image_b = g.F.Source.history c.find_named-2.new.folder;
  with_log_a = g.F.Source.history c.find_named-2.new.folder;
  image_a = inl (c.in_ok-find_named.ensures.found honest);
  image_b = inr (c.in_err-find_named-2.ensures.failed, c.in_err-find_named-2.ensures.part honest);
  log_a = inr (ap (λ files. files.log_a) c.requires, inl refl);
  log_b = inr (ap (λ files. files.log_b) c.requires, inl refl);
})
