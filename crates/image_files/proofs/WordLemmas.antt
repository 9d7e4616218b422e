-- Numbers and words in bytes.
use Rattle.std.proofs.Common.{rules}
use Rattle.std.proofs.Common.{◌≡◌, ℕ, zero, suc, ◌+◌, ◌*◌, ◌^◌, ◌<◌, ◌≤◌, true, List, [], ◌∷◌, ◌++◌, length, get_or, take, drop, refl, sym, ◌∙◌, ap, arith, length-drop}
use Rattle.std.proofs.lemmas.List.{take-append-drop, drop_at, length-take}
use Rattle.std.proofs.lemmas.List.Folds.{list_all-append}
use Rattle.file_format.specs.Number.{number_of, number_bytes}
use Rattle.file_format.proofs.NumberLemmas.{number_of-append, number_of-number_bytes}
use Rattle.std.specs.List.{list_all}
use Rattle.image_files.specs.Image.{number_at, words_from, is_word}

-- one word more
pub words_from-push : (bytes : List ℕ) (place n : ℕ) → words_from bytes place (n + 1) ≡ words_from bytes place n ++ number_at bytes (place + 8 * n) ∷ []
words_from-push bytes place zero = let same : place ≡ place + 8 * 0 = omega arith in ap (λ (p : ℕ). number_at bytes p ∷ []) same
words_from-push bytes place (suc n) =
    let more : suc n + 1 ≡ suc (n + 1) = omega arith in
    let same : place + 8 + 8 * n ≡ place + 8 * suc n = omega arith in
    ap (words_from bytes place) more
    ∙ ap (λ (l : List ℕ). number_at bytes place ∷ l) (words_from-push bytes (place + 8) n)
    ∙ ap (λ (p : ℕ). number_at bytes place ∷ (words_from bytes (place + 8) n ++ number_at bytes p ∷ [])) same

pub words_from-append : (bytes : List ℕ) (place m n : ℕ) → words_from bytes place (m + n) ≡ words_from bytes place m ++ words_from bytes (place + 8 * m) n
words_from-append bytes place zero n =
    let none : zero + n ≡ n = omega arith in
    let same : place ≡ place + 8 * 0 = omega arith in
    ap (words_from bytes place) none ∙ ap (λ (p : ℕ). words_from bytes p n) same
words_from-append bytes place (suc m) n =
    let more : suc m + n ≡ suc (m + n) = omega arith in
    let same : place + 8 + 8 * m ≡ place + 8 * suc m = omega arith in
    ap (words_from bytes place) more
    ∙ ap (λ (l : List ℕ). number_at bytes place ∷ l) (words_from-append bytes (place + 8) m n)
    ∙ ap (λ (p : ℕ). number_at bytes place ∷ (words_from bytes (place + 8) m ++ words_from bytes p n)) same

pub length-words_from : (bytes : List ℕ) (place n : ℕ) → length (words_from bytes place n) ≡ n
length-words_from bytes place zero = refl
length-words_from bytes place (suc n) = let e = length-words_from bytes (place + 8) n in omega (arith, e)

-- words read so far, and the next one
pub words_from-more : (bytes items : List ℕ) (place n word : ℕ) {more : List ℕ} → items ≡ words_from bytes place n
    → word ≡ number_at bytes (place + 8 * n) → more ≡ items ++ word ∷ [] → more ≡ words_from bytes place (n + 1)
words_from-more bytes items place n word so_far next is = search (rules, words_from-push)

-- one word more passes the test
pub words_pass-more : (bytes : List ℕ) (place n word : ℕ) → list_all is_word (words_from bytes place n) ≡ true
    → word ≡ number_at bytes (place + 8 * n) → is_word word ≡ true → list_all is_word (words_from bytes place (n + 1)) ≡ true
words_pass-more bytes place n word so_far next here = search (rules, list_all-append, words_from-push)

-- a word by its place
pub get_or-words_from : (bytes : List ℕ) (place n i : ℕ) → i < n → get_or (words_from bytes place n) i 0 ≡ number_at bytes (place + 8 * i)
get_or-words_from bytes place zero i lt = absurd (omega arith)
get_or-words_from bytes place (suc n) zero lt = let same : place ≡ place + 8 * 0 = omega arith in ap (number_at bytes) same
get_or-words_from bytes place (suc n) (suc i) lt =
    let same : place + 8 + 8 * i ≡ place + 8 * suc i = omega arith in
    get_or-words_from bytes (place + 8) n i (omega arith) ∙ ap (number_at bytes) same

-- a number is that of the 8 bytes from its place on
pub number_same : (xs ys : List ℕ) (p q : ℕ) → p + 8 ≤ length xs → q + 8 ≤ length ys → take 8 (drop p xs) ≡ take 8 (drop q ys) → number_at xs p ≡ number_at ys q
number_same xs ys p q inside_x inside_y same =
    let x = take 8 (drop p xs) in
    let y = take 8 (drop q ys) in
    let of_x : number_of 8 (x ++ drop 8 (drop p xs)) ≡ number_of 8 x = number_of-append 8 x (drop 8 (drop p xs)) (omega (arith, length-take 8 (drop p xs), length-drop p xs)) in
    let of_y : number_of 8 (y ++ drop 8 (drop q ys)) ≡ number_of 8 y = number_of-append 8 y (drop 8 (drop q ys)) (omega (arith, length-take 8 (drop q ys), length-drop q ys)) in
    ap (number_of 8) (sym (take-append-drop 8 (drop p xs))) ∙ of_x ∙ ap (number_of 8) same ∙ sym of_y ∙ ap (number_of 8) (take-append-drop 8 (drop q ys))

-- the number that is written at a place
pub number_written : (front rest : List ℕ) (place x : ℕ) → length front ≡ place → x < 256 ^ 8 → number_at (front ++ (number_bytes 8 x ++ rest)) place ≡ x
number_written front rest place x at small = ap (number_of 8) (drop_at front (number_bytes 8 x ++ rest) place at) ∙ number_of-number_bytes 8 x rest small
