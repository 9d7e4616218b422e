use Rattle.std.proofs.Common.{rules, ◌≡◌, ◌++◌, ◌-◌, ◌≤◌, ℕ, List, length, take, drop, ap, ◌∙◌, arith}
use Rattle.std.proofs.lemmas.List.{take_at, take_all}
use Rattle.file_readers.proofs.FrontLemmas.{on_ok, read_on}
use Rattle.file_readers.proofs.forward.read_forward.Goals as goal

-- bytes that are made longer, with the file's bytes in the part that is new
filled : (content old reserved resized seen new pad : List ℕ) (at end len : ℕ) → seen ≡ resized
    → resized ≡ take end reserved ++ pad → reserved ≡ old → length old ≡ at → at ≤ end → len ≡ end → length seen ≡ len → length new ≡ length seen
    → new ≡ take at seen ++ take (length seen - at) (drop at content) → old ≡ take (length old) content → take len (new ++ drop (length new) resized) ≡ take end content
filled content old reserved resized seen new pad at end len is_seen is_resized is_reserved start few is_len all new_all read first =
    let within : length old ≤ end = omega arith in
    let longer : seen ≡ old ++ pad = is_seen ∙ is_resized ∙ ap (λ (l : List ℕ). take end l ++ pad) is_reserved ∙ ap (λ (l : List ℕ). l ++ pad) (take_all end old within) in
    let front : take at seen ≡ old = ap (take at) longer ∙ take_at old pad at start in
    take_at new (drop (length new) resized) len (new_all ∙ all)
    ∙ read_on content old (take (length seen - at) (drop at content)) new at end few
    (first ∙ ap (λ (n : ℕ). take n content) start)
    (ap (λ (n : ℕ). take (n - at) (drop at content)) (all ∙ is_len))
    (read ∙ ap (λ (l : List ℕ). l ++ take (length seen - at) (drop at content)) front)

pub returns-clause-read : goal.returns-clause-read
returns-clause-read g c = search (rules, on_ok, filled)
