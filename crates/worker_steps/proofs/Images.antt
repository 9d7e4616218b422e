-- The words that were taken of a round are its words.
use Rattle.std.proofs.Common.{arith, ◌≡◌, ℕ, suc, ◌+◌, Bool, true, false, List, [], ◌∷◌, length, drop, get_or, Some, refl, sym, ap, ◌∙◌}
use Rattle.std.specs.Prelude.{slice_get, slice_index}
use Rattle.std.proofs.lemmas.List.{drop-drop, drop_all, drop_more, get_or-drop}
use Rattle.capture_core.specs.declared.taker.Taken.{Taken}
use Rattle.image_files.specs.Taken.{word_of, filled_words}
use Rattle.shared_capture.specs.declared.view.Round.{Round}
use Rattle.shared_capture.specs.declared.view.Snapshot.{Snapshot}
use Rattle.shared_capture.specs.Rounds.{flag_at, shown_as, shown, IsTakenOf}
use Rattle.workers.specs.Worlds.{IsUnchanged}

-- ---- the cells taken of a round are its words, if those before it are the newest image's

-- a cell as it was shown has the round's word, even if that is the word before
shown_word : (flag : Bool) (word before : ℕ) → (flag ≡ false → word ≡ before) → word_of (shown_as flag word) before ≡ word
shown_word true word before same = refl
shown_word false word before same = sym (same refl)

filled_from : (r : Round) (before : List ℕ) (o : ℕ) (taken : List Taken) → IsUnchanged before r
    → ((i : ℕ) (t : Taken) → slice_get taken i ≡ Some t → t ≡ shown r (o + i)) → length r.words ≡ o + length taken
    → filled_words taken (drop o before) ≡ drop o r.words
filled_from r before o [] unchanged shows long = sym (drop_all o r.words (omega (arith, long)))
filled_from r before o (t ∷ taken) unchanged shows long =
    let place : o + 0 ≡ o = omega arith in
    let is : t ≡ shown r o = shows 0 t refl ∙ ap (shown r) place in
    let old : get_or (drop o before) 0 0 ≡ slice_index before o = get_or-drop o before 0 0 ∙ ap (λ k. get_or before k 0) place in
    let word : word_of t (get_or (drop o before) 0 0) ≡ get_or r.words o 0 =
    ap (λ w. word_of t w) old ∙ ap (λ x. word_of x (slice_index before o)) is ∙ shown_word (flag_at r.touched o) (slice_index r.words o) (slice_index before o) (unchanged o) in
    let next : o + 1 + length taken ≡ o + length (t ∷ taken) = omega arith in
    let rest : filled_words taken (drop (o + 1) before) ≡ drop (o + 1) r.words =
    filled_from r before (o + 1) taken unchanged (λ i x is_x. shows (suc i) x is_x ∙ ap (shown r) (let e : o + suc i ≡ o + 1 + i = omega arith in e)) (long ∙ sym next) in
    let tail : filled_words taken (drop 1 (drop o before)) ≡ drop (o + 1) r.words = ap (filled_words taken) (drop-drop 1 o before) ∙ rest in
    ap (λ w. w ∷ filled_words taken (drop 1 (drop o before))) word
    ∙ ap (λ l. get_or r.words o 0 ∷ l) tail
    ∙ sym (drop_more r.words o 0 (omega (arith, long)))

pub filled_is_marked : (r : Round) (s : Snapshot) (before : List ℕ) → IsTakenOf r s → IsUnchanged before r → length s.taken ≡ length r.words → filled_words s.taken before ≡ r.words
filled_is_marked r s before taken unchanged long =
    filled_from r before 0 s.taken unchanged (λ i t is. taken.1 i t is ∙ ap (shown r) (let e : i ≡ 0 + i = omega arith in e))
    (sym long ∙ (let e : length s.taken ≡ 0 + length s.taken = omega arith in e))
