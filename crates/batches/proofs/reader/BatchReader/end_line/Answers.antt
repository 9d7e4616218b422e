use Rattle.std.proofs.Common.{refl, sym, subst, ◌≤◌, ◌<◌, ℕ, IsTrue, false, ◌↔◌, inl, inr}
use Rattle.std.proofs.lemmas.Bool.{cases_lt}
use Rattle.line_grammar.specs.Command.{Means}
use Rattle.line_grammar.specs.Kept.{KeptMeans}
use Rattle.batches.specs.Reading.{Reading, IsBegun}
use Rattle.batches.proofs.ReadingLemmas.{begun_more, begun_too_much, begun_ends}
use Rattle.batches.proofs.reader.BatchReader.end_line.Goals as goal

not_full : (n : ℕ) → (IsTrue false ↔ (1024 ≤ n)) → n < 1024
not_full n h = elim (cases_lt n 1024) [ inl lt ↦ lt | inr ge ↦ absurd (let e = h.1 ge in cc) ]

pub returns-in_default-clause-whole : goal.returns-in_default-clause-whole
returns-in_default-clause-whole c =
    let old : Reading = record { requests = c.self.inside.batch.list; kept = c.self.inside.line } in
    let means : KeptMeans Means old.kept c.read_kept-meaning.result = rw (← c.bytes.ensures) c.read_kept-meaning.ensures in
    λ _ before begun. begun_ends before old c.read_kept-meaning.result means (sym c.in_default.ensures) (subst (IsBegun before) (sym c.self.view_is) begun)

pub returns-then-is_full-clause-too_long : goal.returns-then-is_full-clause-too_long
returns-then-is_full-clause-too_long c =
    let old : Reading = record { requests = c.self.inside.batch.list; kept = c.self.inside.line } in
    let means : KeptMeans Means old.kept c.read_kept-meaning.result = rw (← c.bytes.ensures) c.read_kept-meaning.ensures in
    λ _ before begun. begun_too_much before old c.read_kept-meaning.result c.in-Some.request means (sym c.in-Some.ensures)
    (c.if-is_full.ensures.0 refl) (subst (IsBegun before) (sym c.self.view_is) begun)

pub returns-clause-more : goal.returns-clause-more
returns-clause-more c =
    let old : Reading = record { requests = c.self.inside.batch.list; kept = c.self.inside.line } in
    let new : Reading = record { requests = c.push_reserved.new.self.list; kept = c.clear.new.self } in
    let means : KeptMeans Means old.kept c.read_kept-meaning.result = rw (← c.bytes.ensures) c.read_kept-meaning.ensures in
    λ _ before begun.
    begun_more before old new c.read_kept-meaning.result c.in-Some.request means (sym c.in-Some.ensures)
    (not_full _ c.if-is_full.ensures) c.push_reserved.ensures.list c.clear.ensures (subst (IsBegun before) (sym c.self.view_is) begun)
