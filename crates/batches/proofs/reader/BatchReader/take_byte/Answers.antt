use Rattle.std.proofs.Common.{ap, ◌∙◌, ◌++◌, ◌∷◌, []}
use Rattle.line_grammar.specs.Kept.{kept_of}
use Rattle.batches.specs.Reading.{Reading}
use Rattle.batches.proofs.ReadingLemmas.{begun_kept}
use Rattle.batches.proofs.reader.BatchReader.take_byte.Goals as goal

pub returns-clause-more : goal.returns-clause-more
returns-clause-more c =
    λ _ before begun. begun_kept before _ _ _ c.if-byte-eq10.false (ap (λ (r : Reading). r.requests) c.self.view_is)
    (c.push.ensures ∙ ap (λ (r : Reading). kept_of (r.kept ++ c.args.byte ∷ [])) c.self.view_is) begun
