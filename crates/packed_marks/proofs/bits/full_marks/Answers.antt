use Rattle.std.proofs.Common.{ℕ, ◌∙◌, sym, ap, subst, replicate}
use Rattle.packed_marks.specs.Bits.{IsFull}
use Rattle.packed_marks.proofs.BitLemmas.{written_back, full-cleared}
use Rattle.packed_marks.proofs.bits.full_marks.Goals as goal

pub returns : goal.returns
returns c =
    let ones = c.deref_mut.ensures.value ∙ c.in_ok-words.ensures.items_if_clones_equal (λ y e. e) ∙ ap (λ (n : ℕ). replicate n 18446744073709551615) c.chunks_of.ensures in
    let done = c.clear_spare.ensures in
    subst (IsFull c.args.cells) (sym (written_back c.in_ok-words.words.len c.clear_spare.new.words _ (done.words ∙ sym (c.in_ok-words.ensures.len ∙ c.chunks_of.ensures))))
    (full-cleared c.args.cells c.deref_mut.result.now c.clear_spare.new.words ones done.words done.cells done.spare)
