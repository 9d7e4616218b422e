use Rattle.std.proofs.Common.{◌∙◌, List, ℕ, true, length, ap, subst, refl}
use Rattle.disk_model.specs.FourFiles.{mapped}
use Rattle.disk_model.specs.declared.four_files.FourFiles.{FourFiles}
use Rattle.world_reports.specs.Copy.{AreParts}
use Rattle.world_reports.proofs.copy.attempt.try_copy.Goals as goal

pub returns-clause-copied : goal.returns-clause-copied
returns-clause-copied g c = λ honest.
    let same = c.in_ok-before.ensures.kept honest in
    record {
      copied = c.in_ok-bytes.bytes;
      are_read = c.read_of.ensures;
      parts = subst (λ (contents : FourFiles (List ℕ)). AreParts true contents c.in_ok-bytes.bytes) same (c.in_ok-bytes.ensures.parts honest);
      lengths_are = c.in_ok-lengths.ensures.lengths honest ∙ ap (mapped length) (c.in_ok-bytes.ensures.kept honest ∙ same);
      none_failed = refl;
    }

pub returns-clause-looked : goal.returns-clause-looked
returns-clause-looked g c = record {
  bytes = c.in_ok-bytes.bytes;
  are_read = c.read_of.ensures;
  before = c.in_ok-before.before;
  after = c.in_ok-after.after;
  looked = c.read_each.new.files;
  read = c.read_each-2.new.files;
  measured = c.lengths_of.new.files;
  first = c.in_ok-before.ensures.asked refl;
  lengths_asked = c.in_ok-lengths.ensures.asked;
  second = c.in_ok-after.ensures.asked refl;
  alike = c.if-not-is_steady.ensures refl;
}
