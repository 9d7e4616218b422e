-- Lines of an input, and their batches.
use Rattle.std.proofs.Common.{arith, refl, ap, sym, ◌∙◌, ◌≡◌, ℕ, List, [], ◌∷◌, ◌++◌, append_assoc, append-nil, Option, Some, None}
use Rattle.std.proofs.lemmas.Bool.Decides.{nat_tests}
use Rattle.line_grammar.specs.declared.command.Command.{Command}
use Rattle.line_grammar.specs.Command.{Means}
use Rattle.batches.specs.Batch.{ended_lines, MeanAll, Batches, request_of, onto, batches_of}
use Rattle.batches.specs.declared.batch.Request.{Request}
use Rattle.line_grammar.specs.Kept.{HasNoNewline}
use Rattle.batches.specs.Reading.{AreLines}

-- ---- one line

-- the first line ends at its newline
pub ended_lines-line : (line bytes : List ℕ) → HasNoNewline line → ended_lines (line ++ (10 ∷ bytes)) ≡ line ∷ ended_lines bytes
ended_lines-line [] bytes unbroken = refl
ended_lines-line (b ∷ line) bytes unbroken = (let other = unbroken.0 in let rest = ended_lines-line line bytes unbroken.1 in grind (arith, nat_tests))

-- a line with no newline has not ended
pub ended_lines-none : (line : List ℕ) → HasNoNewline line → ended_lines line ≡ []
ended_lines-none [] unbroken = refl
ended_lines-none (b ∷ line) unbroken = (let other = unbroken.0 in let rest = ended_lines-none line unbroken.1 in grind (arith, nat_tests))

-- ---- several lines

pub MeanAll-append : (lines more : List (List ℕ)) (meanings others : List (Option Command)) → MeanAll lines meanings → MeanAll more others → MeanAll (lines ++ more) (meanings ++ others)
MeanAll-append [] more [] others one two = two
MeanAll-append [] more (meaning ∷ meanings) others one two = absurd one
MeanAll-append (line ∷ lines) more [] others one two = absurd one
MeanAll-append (line ∷ lines) more (meaning ∷ meanings) others one two = (one.0, MeanAll-append lines more meanings others one.1 two)

pub lines_none : AreLines [] []
lines_none = record { lines = []; mean = tt; on = λ later. refl }

-- one line after another part
pub lines_then : (before more : List ℕ) (meanings others : List (Option Command)) → AreLines before meanings → AreLines more others → AreLines (before ++ more) (meanings ++ others)
lines_then before more meanings others one two = record {
  lines = one.lines ++ two.lines;
  mean = MeanAll-append one.lines two.lines meanings others one.mean two.mean;
  on = λ later. ap ended_lines (append_assoc before more later) ∙ (one.on (more ++ later) ∙ (ap (λ l. one.lines ++ l) (two.on later) ∙ sym (append_assoc one.lines two.lines (ended_lines later))));
}

-- a line and its newline
pub line_ends : (line : List ℕ) (meaning : Option Command) → HasNoNewline line → Means line meaning → AreLines (line ++ 10 ∷ []) (meaning ∷ [])
line_ends line meaning unbroken means = record {
  lines = line ∷ [];
  mean = (means, tt);
  on = λ later. ap ended_lines (append_assoc line (10 ∷ []) later) ∙ ended_lines-line line later unbroken;
}

-- ---- several batches

-- batches, and others after them
abbrev pub added : List (List Request) → List Request → List (List Request) → List Request → Batches
added ended rest [] others = record { ended = ended; rest = rest ++ others }
added ended rest (batch ∷ batches) others = record { ended = ended ++ ((rest ++ batch) ∷ batches); rest = others }

onto_added : (request : Option Request) (ended : List (List Request)) (rest : List Request) (more : List (List Request)) (others : List Request)
    → onto request (added ended rest more others) ≡ added (onto request (record { ended = ended; rest = rest })).ended (onto request (record { ended = ended; rest = rest })).rest more others
onto_added None ended rest [] others = refl
onto_added None ended rest (batch ∷ batches) others = refl
onto_added (Some request) [] rest [] others = refl
onto_added (Some request) [] rest (batch ∷ batches) others = refl
onto_added (Some request) (first ∷ ended) rest [] others = refl
onto_added (Some request) (first ∷ ended) rest (batch ∷ batches) others = refl

added_none : (more : List (List Request)) (others : List Request) → added [] [] more others ≡ record { ended = more; rest = others }
added_none [] others = refl
added_none (batch ∷ batches) others = refl

pub batches_append : (meanings others : List (Option Command))
    → batches_of (meanings ++ others) ≡ added (batches_of meanings).ended (batches_of meanings).rest (batches_of others).ended (batches_of others).rest
batches_append [] others = sym (added_none (batches_of others).ended (batches_of others).rest)
batches_append (meaning ∷ meanings) others =
    ap (onto (request_of meaning)) (batches_append meanings others)
    ∙ onto_added (request_of meaning) (batches_of meanings).ended (batches_of meanings).rest (batches_of others).ended (batches_of others).rest

added_whole : (ended more : List (List Request)) (others : List Request) → added ended [] more others ≡ record { ended = ended ++ more; rest = others }
added_whole ended [] others = ap (λ (l : List (List Request)). record { ended = l; rest = others }) (sym (append-nil ended))
added_whole ended (batch ∷ batches) others = refl

-- after whole batches more of them follow
pub batches_after : (meanings others : List (Option Command)) (ended : List (List Request)) → batches_of meanings ≡ record { ended = ended; rest = [] }
    → batches_of (meanings ++ others) ≡ record { ended = ended ++ (batches_of others).ended; rest = (batches_of others).rest }
batches_after meanings others ended whole =
    batches_append meanings others
    ∙ (ap (λ (b : Batches). added b.ended b.rest (batches_of others).ended (batches_of others).rest) whole
    ∙ added_whole ended (batches_of others).ended (batches_of others).rest)

-- a request after requests
pub batches_more : (meanings : List (Option Command)) (meaning : Option Command) (requests : List Request) (request : Request)
    → batches_of meanings ≡ record { ended = []; rest = requests } → request_of meaning ≡ Some request
    → batches_of (meanings ++ meaning ∷ []) ≡ record { ended = []; rest = requests ++ request ∷ [] }
batches_more meanings meaning requests request begun asks =
    batches_append meanings (meaning ∷ [])
    ∙ (ap (λ (b : Batches). added b.ended b.rest (batches_of (meaning ∷ [])).ended (batches_of (meaning ∷ [])).rest) begun
    ∙ ap (λ (r : Option Request). added [] requests (onto r (record { ended = []; rest = [] })).ended (onto r (record { ended = []; rest = [] })).rest) asks)

-- an `end` after requests
pub batches_end : (meanings : List (Option Command)) (meaning : Option Command) (requests : List Request)
    → batches_of meanings ≡ record { ended = []; rest = requests } → request_of meaning ≡ None
    → batches_of (meanings ++ meaning ∷ []) ≡ record { ended = requests ∷ []; rest = [] }
batches_end meanings meaning requests begun ends =
    batches_append meanings (meaning ∷ [])
    ∙ (ap (λ (b : Batches). added b.ended b.rest (batches_of (meaning ∷ [])).ended (batches_of (meaning ∷ [])).rest) begun
    ∙ (ap (λ (r : Option Request). added [] requests (onto r (record { ended = []; rest = [] })).ended (onto r (record { ended = []; rest = [] })).rest) ends
    ∙ ap (λ (l : List Request). record { ended = l ∷ []; rest = [] }) (append-nil requests)))
