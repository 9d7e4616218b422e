-- Reading a batch byte by byte.
use Rattle.std.proofs.Common.{arith, refl, ap, sym, ◌∙◌, subst, ◌≡◌, ◌≢◌, ℕ, ◌<◌, ◌≤◌, List, [], ◌∷◌, ◌++◌, append_assoc, append-nil, length, Option, Some, None}
use Rattle.std.proofs.lemmas.List.{length-append}
use Rattle.line_grammar.specs.declared.command.Command.{Command}
use Rattle.line_grammar.specs.Command.{Means}
use Rattle.batches.specs.Batch.{request_of}
use Rattle.batches.specs.declared.batch.Request.{Request}
use Rattle.batches.specs.declared.batch.TheConstants.{BATCH_LINES}
use Rattle.line_grammar.specs.Kept.{kept_of, KeptMeans}
use Rattle.line_grammar.proofs.KeptLemmas.{kept_of-snoc, HasNoNewline-snoc}
use Rattle.batches.specs.Reading.{Reading, AreLines, IsBegun, IsWhole, IsTooMuch}
use Rattle.batches.proofs.LineLemmas.{lines_none, lines_then, line_ends, batches_more, batches_end}

-- before anything is read
pub begun_fresh : IsBegun [] (record { requests = []; kept = [] })
begun_fresh = record { before = []; line = []; meanings = []; split = refl; lines = lines_none; requests = refl; few = omega arith; unbroken = tt; kept_is = refl }

-- a byte of the line
pub begun_kept : (before : List ℕ) (old new : Reading) (b : ℕ) → b ≢ 10 → new.requests ≡ old.requests → new.kept ≡ kept_of (old.kept ++ b ∷ []) → IsBegun before old → IsBegun (before ++ b ∷ []) new
begun_kept before old new b other requests kept begun = record {
  before = begun.before;
  line = begun.line ++ b ∷ [];
  meanings = begun.meanings;
  split = ap (λ l. l ++ b ∷ []) begun.split ∙ append_assoc begun.before begun.line (b ∷ []);
  lines = begun.lines;
  requests = begun.requests ∙ ap (λ (l : List Request). record { ended = []; rest = l }) (sym requests);
  few = rw requests begun.few;
  unbroken = HasNoNewline-snoc begun.line b begun.unbroken other;
  kept_is = kept ∙ (ap (λ k. kept_of (k ++ b ∷ [])) begun.kept_is ∙ sym (kept_of-snoc begun.line b));
}

-- the line that ends has the meaning of its kept bytes
line_means : (before : List ℕ) (old : Reading) (meaning : Option Command) → KeptMeans Means old.kept meaning → (begun : IsBegun before old) → Means begun.line meaning
line_means before old meaning means begun = means begun.line (sym begun.kept_is)

all_lines : (before : List ℕ) (old : Reading) (meaning : Option Command) → KeptMeans Means old.kept meaning
    → (begun : IsBegun before old) → AreLines (before ++ 10 ∷ []) (begun.meanings ++ meaning ∷ [])
all_lines before old meaning means begun =
    subst (λ bytes. AreLines bytes (begun.meanings ++ meaning ∷ [])) (sym (append_assoc begun.before begun.line (10 ∷ [])) ∙ ap (λ l. l ++ 10 ∷ []) (sym begun.split))
    (lines_then begun.before (begun.line ++ 10 ∷ []) begun.meanings (meaning ∷ []) begun.lines (line_ends begun.line meaning begun.unbroken (line_means before old meaning means begun)))

-- a line with a request, if there is room for it
pub begun_more : (before : List ℕ) (old new : Reading) (meaning : Option Command) (request : Request)
    → KeptMeans Means old.kept meaning → request_of meaning ≡ Some request → length old.requests < BATCH_LINES
    → new.requests ≡ old.requests ++ request ∷ [] → new.kept ≡ [] → IsBegun before old → IsBegun (before ++ 10 ∷ []) new
begun_more before old new meaning request means asks room requests kept begun = record {
  before = before ++ 10 ∷ [];
  line = [];
  meanings = begun.meanings ++ meaning ∷ [];
  split = sym (append-nil (before ++ 10 ∷ []));
  lines = all_lines before old meaning means begun;
  requests = batches_more begun.meanings meaning old.requests request begun.requests asks ∙ ap (λ (l : List Request). record { ended = []; rest = l }) (sym requests);
  few = rw requests (simp length-append (omega arith));
  unbroken = tt;
  kept_is = kept;
}

-- a line with a request, if there is no room for it
pub begun_too_much : (before : List ℕ) (old : Reading) (meaning : Option Command) (request : Request)
    → KeptMeans Means old.kept meaning → request_of meaning ≡ Some request → BATCH_LINES ≤ length old.requests
    → IsBegun before old → IsTooMuch (before ++ 10 ∷ [])
begun_too_much before old meaning request means asks full begun = record {
  meanings = begun.meanings ++ meaning ∷ [];
  requests = old.requests ++ request ∷ [];
  lines = all_lines before old meaning means begun;
  batch = batches_more begun.meanings meaning old.requests request begun.requests asks;
  many = (let few = begun.few in simp length-append (omega (arith, few, full)));
}

-- the `end` of a batch
pub begun_ends : (before : List ℕ) (old : Reading) (meaning : Option Command) → KeptMeans Means old.kept meaning
    → request_of meaning ≡ None → IsBegun before old → IsWhole (before ++ 10 ∷ []) old.requests
begun_ends before old meaning means ends begun = record {
  meanings = begun.meanings ++ meaning ∷ [];
  lines = all_lines before old meaning means begun;
  batch = batches_end begun.meanings meaning old.requests begun.requests ends;
  few = begun.few;
}
