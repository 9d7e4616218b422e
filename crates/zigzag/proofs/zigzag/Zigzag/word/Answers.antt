use Rattle.std.proofs.Common.{sym, subst, ◌≡◌, ◌<◌, length, get_or}
use Rattle.zigzag.specs.Zigzag.{Arrays, live_words}
use Rattle.zigzag.proofs.ArraysLemmas.{word-is}
use Rattle.zigzag.proofs.zigzag.Zigzag.word.Goals as goal

pub returns-clause-word : goal.returns-clause-word
returns-clause-word c =
    let inside = subst (λ (s : Arrays). c.args.i < length s.array_zero) (sym c.self.view_is) c.requires in
    subst (λ (s : Arrays). c.entry.result ≡ get_or (live_words s) c.args.i 0) c.self.view_is
    (word-is _ c.args.i c.entry.result c.is_set-mark.result _ _ c.self.invariant inside c.is_set-mark.ensures c.deref.ensures.value c.deref-2.ensures.value c.entry.ensures)
