use Rattle.std.proofs.Common.{◌∙◌, ap, subst, sym, length, []}
use Rattle.capture_core.specs.Content.{Content, Covers}
use Rattle.capture_core.proofs.ContentLemmas.{content-performs, length-written, covers-writes}
use Rattle.capture_core.proofs.capture.accesses_write.Goals as goal

pub returns-clause-content : goal.returns-clause-content
returns-clause-content g c = content-performs g.C.Capture.content g.C.Cells.accessed g.met.C.Capture.after_access

pub returns-clause-cells : goal.returns-clause-cells
returns-clause-cells g c = λ old new writes performs.
    ap (λ store. length store.live) (content-performs g.C.Capture.content g.C.Cells.accessed g.met.C.Capture.after_access old new writes performs)
    ∙ length-written (g.C.Capture.content old).live writes

pub returns-clause-unchanged : goal.returns-clause-unchanged
returns-clause-unchanged g c = λ old new. content-performs g.C.Capture.content g.C.Cells.accessed g.met.C.Capture.after_access old new []

pub returns-clause-covered : goal.returns-clause-covered
returns-clause-covered g c = λ old new writes image performs covers.
    subst (λ (store : Content). Covers image store) (sym (content-performs g.C.Capture.content g.C.Cells.accessed g.met.C.Capture.after_access old new writes performs))
    (covers-writes image (g.C.Capture.content old) writes covers)
