use Rattle.std.proofs.Common.{◌∙◌, List, ℕ, sym, subst, refl}
use Rattle.world_reports.specs.Copy.{IsReadWhole}
use Rattle.world_reports.proofs.copy.attempt.is_steady.Goals as goal

pub returns : goal.returns
returns c = λ yes.
    let alike = c.if-not-are_alike.ensures refl in
    record {
      before_is = sym c.summary_of.ensures ∙ (alike.0 ∙ c.summary_of-2.ensures);
      after_is = sym c.summary_of-3.ensures ∙ (alike.1 ∙ c.summary_of-2.ensures);
      log_a = subst (λ (l : List ℕ). IsReadWhole l c.args.lengths.now.log_a) c.deref.ensures.value (c.if-is_cut_short.ensures.whole refl);
      log_b = subst (λ (l : List ℕ). IsReadWhole l c.args.lengths.now.log_b) c.deref-else-is_cut_short.ensures.value (c.if-is_cut_short-2.ensures.whole refl);
      image_a = (c.same_images.ensures yes).0;
      image_b = (c.same_images.ensures yes).1;
    }
