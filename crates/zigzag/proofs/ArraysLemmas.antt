-- The effect of a store's calls on its words.
use Rattle.std.proofs.Common.{◌≡◌, refl, sym, ◌∙◌, ap, ℕ, zero, suc, ◌+◌, ◌<◌, ◌≤◌, Bool, true, false, not, cond, List, [], ◌∷◌, length, drop, map, replicate, get_or, set, Some, None, arith, inl, ◌-◌}
use Rattle.std.proofs.lemmas.List.{length-map, length-drop, drop_more, get_or-map, set-get_or}
use Rattle.std.proofs.Math.Seq.{drop-length}
use Rattle.std.proofs.lemmas.List.Elements.{All-nil, All-cons, All-head, All-tail}
use Rattle.std.specs.Option.{option_map}
use Rattle.std.proofs.lemmas.Option.{slice_get_within, get_or_from_slice_get, slice_get-get_or, slice_get-map, slice_get_past}
use Rattle.std.specs.List.{slice_get, All}
use Rattle.world_actions.specs.World.{IsWord}
use Rattle.capture_core.specs.declared.taker.Taken.TheVariants.{Word}
use Rattle.capture_core.specs.Taken.{taken_of}
use Rattle.capture_core.specs.Content.{all_touched, content_after, Marks, Takes}
use Rattle.capture_core.proofs.ContentLemmas.{all_touched-set, none_behind, takes_none}
use Rattle.zigzag.specs.Zigzag.{Arrays, words_at, live_words, captured_words, content_of, IsInOrder, built_arrays, written_arrays, marked_arrays, taken_arrays}

-- there is a word for each cell
length-words_at : (marks : List Bool) (zeros ones : List ℕ) → length ones ≡ length zeros → length marks ≡ length zeros → length (words_at marks zeros ones) ≡ length zeros
length-words_at [] zeros ones p q = q
length-words_at (mark ∷ marks) [] ones p q = absurd (omega (arith, q))
length-words_at (mark ∷ marks) (x ∷ zeros) [] p q = absurd (omega (arith, p))
length-words_at (mark ∷ marks) (x ∷ zeros) (y ∷ ones) p q = ap suc (length-words_at marks zeros ones (omega (arith, p)) (omega (arith, q)))

-- the word of a cell is the entry that its mark names
get_or-words_at : (marks : List Bool) (zeros ones : List ℕ) (i : ℕ) → length ones ≡ length zeros → length marks ≡ length zeros → i < length zeros →
    get_or (words_at marks zeros ones) i 0 ≡ cond (get_or marks i false) (get_or ones i 0) (get_or zeros i 0)
get_or-words_at [] zeros ones i p q r = absurd (omega (arith, q, r))
get_or-words_at (mark ∷ marks) [] ones i p q r = absurd (omega (arith, r))
get_or-words_at (mark ∷ marks) (x ∷ zeros) [] i p q r = absurd (omega (arith, p))
get_or-words_at (mark ∷ marks) (x ∷ zeros) (y ∷ ones) zero p q r = refl
get_or-words_at (mark ∷ marks) (x ∷ zeros) (y ∷ ones) (suc i) p q r = get_or-words_at marks zeros ones i (omega (arith, p)) (omega (arith, q)) (omega (arith, r))

-- a write to both arrays, and to the mark
words_at-set_both : (marks : List Bool) (zeros ones : List ℕ) (i v w : ℕ) (mark : Bool) → words_at (set marks i mark) (set zeros i v) (set ones i w) ≡ set (words_at marks zeros ones) i (cond mark w v)
words_at-set_both [] zeros ones i v w mark = refl
words_at-set_both (m ∷ marks) [] ones zero v w mark = refl
words_at-set_both (m ∷ marks) [] ones (suc i) v w mark = refl
words_at-set_both (m ∷ marks) (x ∷ zeros) [] zero v w mark = refl
words_at-set_both (m ∷ marks) (x ∷ zeros) [] (suc i) v w mark = refl
words_at-set_both (m ∷ marks) (x ∷ zeros) (y ∷ ones) zero v w mark = refl
words_at-set_both (m ∷ marks) (x ∷ zeros) (y ∷ ones) (suc i) v w mark = ap (λ words. cond m y x ∷ words) (words_at-set_both marks zeros ones i v w mark)

-- a write to the array that the mark names after it: the other array keeps its entry
words_at-set : (marks : List Bool) (zeros ones : List ℕ) (i v : ℕ) (mark : Bool) →
    words_at (set marks i mark) (cond mark zeros (set zeros i v)) (cond mark (set ones i v) ones) ≡ set (words_at marks zeros ones) i v
words_at-set marks zeros ones i v true =
    ap (λ (kept : List ℕ). words_at (set marks i true) kept (set ones i v)) (sym (set-get_or zeros i 0)) ∙ words_at-set_both marks zeros ones i (get_or zeros i 0) v true
words_at-set marks zeros ones i v false =
    ap (λ (kept : List ℕ). words_at (set marks i false) (set zeros i v) kept) (sym (set-get_or ones i 0)) ∙ words_at-set_both marks zeros ones i v (get_or ones i 0) false

-- a write to array one, which the opposite of the mark does not name
words_at-set_unseen_one : (marks : List Bool) (zeros ones : List ℕ) (i v : ℕ) → get_or marks i false ≡ true → words_at (map not marks) zeros (set ones i v) ≡ words_at (map not marks) zeros ones
words_at-set_unseen_one [] zeros ones i v e = refl
words_at-set_unseen_one (m ∷ marks) [] ones i v e = refl
words_at-set_unseen_one (m ∷ marks) (x ∷ zeros) [] i v e = refl
words_at-set_unseen_one (m ∷ marks) (x ∷ zeros) (y ∷ ones) zero v e =
    ap (λ b. cond (not b) v x ∷ words_at (map not marks) zeros ones) e ∙ sym (ap (λ b. cond (not b) y x ∷ words_at (map not marks) zeros ones) e)
words_at-set_unseen_one (m ∷ marks) (x ∷ zeros) (y ∷ ones) (suc i) v e = ap (λ words. cond (not m) y x ∷ words) (words_at-set_unseen_one marks zeros ones i v e)

-- the same for array zero
words_at-set_unseen_zero : (marks : List Bool) (zeros ones : List ℕ) (i v : ℕ) → get_or marks i false ≡ false → words_at (map not marks) (set zeros i v) ones ≡ words_at (map not marks) zeros ones
words_at-set_unseen_zero [] zeros ones i v e = refl
words_at-set_unseen_zero (m ∷ marks) [] ones i v e = refl
words_at-set_unseen_zero (m ∷ marks) (x ∷ zeros) [] zero v e = refl
words_at-set_unseen_zero (m ∷ marks) (x ∷ zeros) [] (suc i) v e = refl
words_at-set_unseen_zero (m ∷ marks) (x ∷ zeros) (y ∷ ones) zero v e =
    ap (λ b. cond (not b) y v ∷ words_at (map not marks) zeros ones) e ∙ sym (ap (λ b. cond (not b) y x ∷ words_at (map not marks) zeros ones) e)
words_at-set_unseen_zero (m ∷ marks) (x ∷ zeros) (y ∷ ones) (suc i) v e = ap (λ words. cond (not m) y x ∷ words) (words_at-set_unseen_zero marks zeros ones i v e)

-- the same for the array that a mark names
words_at-set_unseen : (marks : List Bool) (zeros ones : List ℕ) (i v : ℕ) (mark : Bool) → get_or marks i false ≡ mark →
    words_at (map not marks) (cond mark zeros (set zeros i v)) (cond mark (set ones i v) ones) ≡ words_at (map not marks) zeros ones
words_at-set_unseen marks zeros ones i v true e = words_at-set_unseen_one marks zeros ones i v e
words_at-set_unseen marks zeros ones i v false e = words_at-set_unseen_zero marks zeros ones i v e

-- the opposite of the opposite marks
not-not : (marks : List Bool) → map not (map not marks) ≡ marks
not-not [] = refl
not-not (true ∷ marks) = ap (λ bs. true ∷ bs) (not-not marks)
not-not (false ∷ marks) = ap (λ bs. false ∷ bs) (not-not marks)

-- there is a live word for each cell
pub length-live_words : (store : Arrays) → IsInOrder store → length (live_words store) ≡ length store.array_zero
length-live_words store ok = length-words_at store.read_marks store.array_zero store.array_one ok.one_length ok.read_length

-- there is a captured word for each cell
length-captured_words : (store : Arrays) → IsInOrder store → length (captured_words store) ≡ length store.array_zero
length-captured_words store ok = length-words_at (map not store.write_marks) store.array_zero store.array_one ok.one_length (length-map store.write_marks not ∙ ok.write_length)

-- a word of the one array or the other
All-words_at : (P : ℕ → Type 0) (marks : List Bool) (zeros ones : List ℕ) → All P zeros → All P ones → All P (words_at marks zeros ones)
All-words_at P [] zeros ones p q = All-nil P
All-words_at P (m ∷ marks) [] ones p q = All-nil P
All-words_at P (m ∷ marks) (x ∷ zeros) [] p q = All-nil P
All-words_at P (true ∷ marks) (x ∷ zeros) (y ∷ ones) p q = All-cons P y _ (All-head P y ones q) (All-words_at P marks zeros ones (All-tail P x zeros p) (All-tail P y ones q))
All-words_at P (false ∷ marks) (x ∷ zeros) (y ∷ ones) p q = All-cons P x _ (All-head P x zeros p) (All-words_at P marks zeros ones (All-tail P x zeros p) (All-tail P y ones q))

-- a cell may hold a live word
pub live_words-are_words : (store : Arrays) → IsInOrder store → All IsWord (live_words store)
live_words-are_words store ok = All-words_at IsWord store.read_marks store.array_zero store.array_one ok.zero_words ok.one_words

-- a live word is the entry that the read mark names
get_or-live_words : (store : Arrays) (i : ℕ) → IsInOrder store → i < length store.array_zero →
    get_or (live_words store) i 0 ≡ cond (get_or store.read_marks i false) (get_or store.array_one i 0) (get_or store.array_zero i 0)
get_or-live_words store i ok lt = get_or-words_at store.read_marks store.array_zero store.array_one i ok.one_length ok.read_length lt

-- with no mark set the words are those of array zero
words_at-zero : (words : List ℕ) → words_at (replicate (length words) false) words words ≡ words
words_at-zero [] = refl
words_at-zero (x ∷ words) = ap (λ list. x ∷ list) (words_at-zero words)

-- the opposite of marks that are all set
not-ones : (n : ℕ) → map not (replicate n true) ≡ replicate n false
not-ones zero = refl
not-ones (suc n) = ap (λ marks. false ∷ marks) (not-ones n)

-- the content of a store just built
pub content_of-built_arrays : (words : List ℕ) → content_of (built_arrays words) ≡ all_touched words []
content_of-built_arrays words =
    let captured : drop (length words) (captured_words (built_arrays words)) ≡ [] =
    ap (λ marks. drop (length words) (words_at marks words words)) (not-ones (length words))
    ∙ ap (drop (length words)) (words_at-zero words)
    ∙ drop-length words in
    ap (λ live. all_touched live (drop (length words) (captured_words (built_arrays words)))) (words_at-zero words)
    ∙ ap (all_touched words) captured

-- a write changes its live word, and no word that is captured
pub content_of-written_arrays : (store : Arrays) (i v : ℕ) → content_of (written_arrays store i v) ≡ content_after (content_of store) (record { cell = i; word = v } ∷ [])
content_of-written_arrays store i v =
    let mark = get_or store.write_marks i false in
    let live : live_words (written_arrays store i v) ≡ set (live_words store) i v = words_at-set store.read_marks store.array_zero store.array_one i v mark in
    let captured : captured_words (written_arrays store i v) ≡ captured_words store = words_at-set_unseen store.write_marks store.array_zero store.array_one i v mark refl in
    ap (λ words. all_touched words (drop store.taken (captured_words (written_arrays store i v)))) live
    ∙ ap (λ words. all_touched (set (live_words store) i v) (drop store.taken words)) captured
    ∙ all_touched-set (live_words store) (drop store.taken (captured_words store)) i v

-- after a mark the live words are captured
pub marks-marked_arrays : (store : Arrays) → Marks (content_of store) (content_of (marked_arrays store))
marks-marked_arrays store =
    let captured : captured_words (marked_arrays store) ≡ live_words store = ap (λ marks. words_at marks store.array_zero store.array_one) (not-not store.read_marks) in
    record {
      live = refl;
      cells = length-map (captured_words (marked_arrays store)) Some ∙ ap length captured;
      left = λ i word e. inl (slice_get-map Some (captured_words (marked_arrays store)) i ∙ ap (λ words. option_map Some (slice_get words i)) captured ∙ ap (option_map Some) e);
    }

-- a captured word is the entry that the write mark does not name
get_or-captured_words : (store : Arrays) (i : ℕ) → IsInOrder store → i < length store.array_zero →
    get_or (captured_words store) i 0 ≡ cond (not (get_or store.write_marks i false)) (get_or store.array_one i 0) (get_or store.array_zero i 0)
get_or-captured_words store i ok lt =
    get_or-words_at (map not store.write_marks) store.array_zero store.array_one i ok.one_length (length-map store.write_marks not ∙ ok.write_length) lt
    ∙ ap (λ b. cond b (get_or store.array_one i 0) (get_or store.array_zero i 0)) (get_or-map not store.write_marks i false false (omega (arith, ok.write_length)))

-- there are no more words than cells
length-words_at-le : (marks : List Bool) (zeros ones : List ℕ) → length (words_at marks zeros ones) ≤ length zeros
length-words_at-le [] zeros ones = omega arith
length-words_at-le (m ∷ marks) [] ones = omega arith
length-words_at-le (m ∷ marks) (x ∷ zeros) [] = omega arith
length-words_at-le (m ∷ marks) (x ∷ zeros) (y ∷ ones) = omega (arith, length-words_at-le marks zeros ones)

-- a place of the live words is one of the array
pub within-live_words : (store : Arrays) (i : ℕ) → i < length (live_words store) → i < length store.array_zero
within-live_words store i lt = omega (arith, length-words_at-le store.read_marks store.array_zero store.array_one)

-- a take if a cell is left
pub takes-word : (store : Arrays) (word : ℕ) → Some word ≡ slice_get (captured_words store) store.taken →
    Takes (content_of store) (Some (Word word)) (content_of (taken_arrays store))
takes-word store word is =
    let below : store.taken < length (captured_words store) = slice_get_within (captured_words store) store.taken word (sym is) in
    let at : get_or (captured_words store) store.taken 0 ≡ word = get_or_from_slice_get (captured_words store) store.taken word 0 (sym is) in
    let split : drop store.taken (captured_words store) ≡ word ∷ drop (store.taken + 1) (captured_words store) =
    drop_more (captured_words store) store.taken 0 below ∙ ap (λ w. w ∷ drop (store.taken + 1) (captured_words store)) at in
    record {
      gives = sym (ap (λ list. option_map taken_of (slice_get (map Some list) 0)) split);
      rest = ap (λ left. record (content_of store) { left = left }) (sym (ap (λ list. drop 1 (map Some list)) split));
    }

-- a take if none is left
pub takes-none : (store : Arrays) → None ≡ slice_get (captured_words store) store.taken → Takes (content_of store) None (content_of store)
takes-none store is = takes_none (content_of store) (ap (map Some) (none_behind (captured_words store) store.taken is))

-- how many cells are left
pub length-left : (store : Arrays) → IsInOrder store → length (content_of store).left ≡ length store.array_zero - store.taken
length-left store ok = simp (length-map, length-drop, length-captured_words store ok)

-- the word of a read, from the marks and the entries that the code reads
pub word-is : (store : Arrays) (i word : ℕ) (mark : Bool) (zeros ones : List ℕ) → IsInOrder store → i < length store.array_zero →
    mark ≡ get_or store.read_marks i false → zeros ≡ store.array_zero → ones ≡ store.array_one →
    word ≡ cond mark (get_or ones i 0) (get_or zeros i 0) → word ≡ get_or (live_words store) i 0
word-is store i word mark zeros ones ok lt m z o is =
    let found = get_or-live_words store i ok lt in
    is ∙ ap (λ b. cond b (get_or ones i 0) (get_or zeros i 0)) m
    ∙ ap (λ list. cond (get_or store.read_marks i false) (get_or ones i 0) (get_or list i 0)) z
    ∙ ap (λ list. cond (get_or store.read_marks i false) (get_or list i 0) (get_or store.array_zero i 0)) o
    ∙ sym found

-- the word of a take
pub captured-is : (store : Arrays) (i word : ℕ) (mark : Bool) (zeros ones : List ℕ) → IsInOrder store → i < length store.array_zero →
    mark ≡ get_or store.write_marks i false → zeros ≡ store.array_zero → ones ≡ store.array_one →
    word ≡ cond (not mark) (get_or ones i 0) (get_or zeros i 0) → Some word ≡ slice_get (captured_words store) i
captured-is store i word mark zeros ones ok lt m z o is =
    let found = get_or-captured_words store i ok lt in
    ap (λ w. Some w) (is ∙ ap (λ b. cond (not b) (get_or ones i 0) (get_or zeros i 0)) m
    ∙ ap (λ list. cond (not (get_or store.write_marks i false)) (get_or ones i 0) (get_or list i 0)) z
    ∙ ap (λ list. cond (not (get_or store.write_marks i false)) (get_or list i 0) (get_or store.array_zero i 0)) o
    ∙ sym found)
    ∙ sym (slice_get-get_or (captured_words store) i 0 (omega (arith, length-captured_words store ok)))

-- nothing is captured past the last cell
pub captured-none : (store : Arrays) → IsInOrder store → length store.array_zero ≤ store.taken → None ≡ slice_get (captured_words store) store.taken
captured-none store ok le = sym (slice_get_past (captured_words store) store.taken (omega (arith, length-captured_words store ok)))
