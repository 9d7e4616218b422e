-- The words of taken cells.
use Rattle.std.proofs.Common.{◌≡◌, ℕ, suc, ◌+◌, ◌*◌, ◌<◌, ◌≤◌, List, [], ◌∷◌, ◌++◌, length, get_or, take, drop, set, refl, sym, ◌∙◌, ap, arith, length-append}
use Rattle.std.proofs.lemmas.List.{take-take, take-append-le, get_or_at, take_at, take_more, drop_more, set_at, length-take, append-nil, append_assoc, map_push, length-map}
use Rattle.std.specs.Prelude.{map}
use Rattle.std.specs.List.{flat_map}
use Rattle.file_format.specs.Number.{number_bytes}
use Rattle.file_format.proofs.NumberLemmas.{length-number_bytes}
use Rattle.image_files.specs.Image.{number_at, words_from}
use Rattle.image_files.specs.Taken.{filled_words, word_of}
use Rattle.capture_core.specs.declared.taker.Taken.{Taken}
use Rattle.capture_core.specs.declared.taker.Taken.TheVariants.{Word}
use Rattle.image_files.proofs.WordLemmas.{words_from-push, length-words_from}

take_written : (old items rest : List ℕ) (at end : ℕ) → at ≤ length old → end ≡ at + length items → take end (take at old ++ items ++ rest) ≡ take at old ++ items
take_written old items rest at end inside is = take_at (take at old ++ items) rest end (omega (arith, is, length-append (take at old) items, length-take at old))

-- the bytes that are written to the front of a buffer are at the front of the lent slice
pub front_of : (n len : ℕ) (front rest lent : List ℕ) → lent ≡ take len (front ++ rest) → n ≤ len → n ≤ length front → take n lent ≡ take n front
front_of n len front rest lent is fits inside = ap (take n) is ∙ take-take n len (front ++ rest) fits ∙ take-append-le n front rest inside

-- one cell more
pub filled_words-push : (cells : List Taken) (cell : Taken) (old : List ℕ) → filled_words (cells ++ cell ∷ []) old ≡ filled_words cells old ++ word_of cell (get_or old (length cells) 0) ∷ []
filled_words-push [] cell old = refl
filled_words-push (c ∷ cells) cell old =
    ap (λ (l : List ℕ). word_of c (get_or old 0 0) ∷ l) (filled_words-push cells cell (drop 1 old) ∙ ap (λ (x : ℕ). filled_words cells (drop 1 old) ++ word_of cell x ∷ []) (moved old (length cells)))
  where
    moved : (l : List ℕ) (n : ℕ) → get_or (drop 1 l) n 0 ≡ get_or l (suc n) 0
    moved [] n = refl
    moved (x ∷ l) n = refl

pub filled_words-append : (cells : List Taken) (cell : Taken) (old : List ℕ) (word : ℕ) → length old ≡ length cells
    → filled_words (cells ++ cell ∷ []) (old ++ word ∷ []) ≡ filled_words cells old ++ word_of cell word ∷ []
filled_words-append [] cell [] word same = refl
filled_words-append [] cell (x ∷ old) word same = absurd (omega (arith, same))
filled_words-append (c ∷ cells) cell [] word same = absurd (omega (arith, same))
filled_words-append (c ∷ cells) cell (x ∷ old) word same = ap (λ (l : List ℕ). word_of c x ∷ l) (filled_words-append cells cell old word (omega (arith, same)))

pub length-filled_words : (cells : List Taken) (old : List ℕ) → length (filled_words cells old) ≡ length cells
length-filled_words [] old = refl
length-filled_words (c ∷ cells) old = let e = length-filled_words cells (drop 1 old) in omega (arith, e)

pub flat_map-push : (words : List ℕ) (word : ℕ) → flat_map (number_bytes 8) (words ++ word ∷ []) ≡ flat_map (number_bytes 8) words ++ number_bytes 8 word
flat_map-push [] word = append-nil (number_bytes 8 word)
flat_map-push (w ∷ words) word = ap (λ (l : List ℕ). number_bytes 8 w ++ l) (flat_map-push words word) ∙ sym (append_assoc (number_bytes 8 w) (flat_map (number_bytes 8) words) (number_bytes 8 word))

pub length-flat_map : (words : List ℕ) → length (flat_map (number_bytes 8) words) ≡ 8 * length words
length-flat_map [] = refl
length-flat_map (w ∷ words) = let e = length-flat_map words in omega (arith, e, length-append (number_bytes 8 w) (flat_map (number_bytes 8) words), length-number_bytes 8 w)

-- one number more in the buffer
pub encode_step : (buffer : List ℕ) (cells : List Taken) (i : ℕ) (d : Taken) → i < length cells → 8 * length cells ≤ length buffer
    → take (8 * i) buffer ≡ flat_map (number_bytes 8) (filled_words (take i cells) [])
    → take (8 * (i + 1)) (take (8 * i) buffer ++ number_bytes 8 (word_of (get_or cells i d) 0) ++ drop (8 * i + 8) buffer) ≡ flat_map (number_bytes 8) (filled_words (take (i + 1) cells) [])
encode_step buffer cells i d lt room so_far =
    let cell = get_or cells i d in
    let word = number_bytes 8 (word_of cell 0) in
    take_written buffer word (drop (8 * i + 8) buffer) (8 * i) (8 * (i + 1)) (omega arith) (omega (arith, length-number_bytes 8 (word_of cell 0)))
    ∙ ap (λ (l : List ℕ). l ++ word) so_far
    ∙ sym (flat_map-push (filled_words (take i cells) []) (word_of cell 0))
    ∙ ap (flat_map (number_bytes 8)) (sym (filled_words-push (take i cells) cell []))
    ∙ ap (λ (l : List Taken). flat_map (number_bytes 8) (filled_words l [])) (sym (take_more cells i d lt))

-- one cell more is filled
pub fill_step : (old cells : List Taken) (bytes : List ℕ) (i : ℕ) (d : Taken) → i < length old
    → cells ≡ map (λ word. Word word) (filled_words (take i old) (words_from bytes 0 i)) ++ drop i old
    → set cells i (Word (word_of (get_or cells i d) (number_at bytes (8 * i)))) ≡ map (λ word. Word word) (filled_words (take (i + 1) old) (words_from bytes 0 (i + 1))) ++ drop (i + 1) old
fill_step old cells bytes i d lt so_far =
    let words = words_from bytes 0 i in
    let front = map (λ (word : ℕ). Word word) (filled_words (take i old) words) in
    let rest = drop (i + 1) old in
    let x = get_or old i d in
    let number = number_at bytes (8 * i) in
    let a = Word (word_of x number) in
    let long : length front ≡ i = omega (arith, length-map (filled_words (take i old) words) (λ (word : ℕ). Word word), length-filled_words (take i old) words, length-take i old) in
    let parts : cells ≡ front ++ x ∷ rest = so_far ∙ ap (λ (l : List Taken). front ++ l) (drop_more old i d lt) in
    let cell : get_or cells i d ≡ x = ap (λ (l : List Taken). get_or l i d) parts ∙ get_or_at front x rest d i long in
    let place : number_at bytes (0 + 8 * i) ≡ number = let same : 0 + 8 * i ≡ 8 * i = omega arith in ap (number_at bytes) same in
    let first : set cells i (Word (word_of (get_or cells i d) number)) ≡ set (front ++ x ∷ rest) i a =
    ap (λ (y : Taken). set cells i (Word (word_of y number))) cell ∙ ap (λ (l : List Taken). set l i a) parts in
    let words_more : words_from bytes 0 (i + 1) ≡ words ++ number ∷ [] = words_from-push bytes 0 i ∙ ap (λ (n : ℕ). words ++ n ∷ []) place in
    let more : map (λ (word : ℕ). Word word) (filled_words (take (i + 1) old) (words_from bytes 0 (i + 1))) ≡ front ++ a ∷ [] =
    ap (λ (l : List Taken). map (λ (word : ℕ). Word word) (filled_words l (words_from bytes 0 (i + 1)))) (take_more old i d lt)
    ∙ ap (λ (l : List ℕ). map (λ (word : ℕ). Word word) (filled_words (take i old ++ x ∷ []) l)) words_more
    ∙ ap (map (λ (word : ℕ). Word word)) (filled_words-append (take i old) x words number (omega (arith, length-words_from bytes 0 i, length-take i old)))
    ∙ map_push (λ (word : ℕ). Word word) (filled_words (take i old) words) (word_of x number) in
    first ∙ set_at front x rest a i long ∙ sym (append_assoc front (a ∷ []) rest) ∙ ap (λ (l : List Taken). l ++ rest) (sym more)
