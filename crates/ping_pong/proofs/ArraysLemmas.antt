-- The effect of a store's calls on its words and marks.
use Rattle.std.proofs.Common.{◌≡◌, refl, sym, ◌∙◌, ap, subst, inl, inr, ◌⊎◌, ℕ, zero, suc, ◌+◌, ◌-◌, ◌<◌, ◌≤◌, Bool, true, false}
use Rattle.std.proofs.Common.{List, [], ◌∷◌, length, drop, replicate, get_or, set, Option, Some, None, arith, add-one}
use Rattle.std.proofs.lemmas.List.{length-set, length-drop, length-replicate, drop_more, drop_all, take_all, get_or_read}
use Rattle.std.proofs.lemmas.List.Elements.{All-set}
use Rattle.std.proofs.lemmas.Option.{slice_get_past, slice_get_within, get_or_from_slice_get}
use Rattle.std.specs.List.{slice_get}
use Rattle.std.specs.Bool.{then_some}
use Rattle.std.specs.Option.{option_map}
use Rattle.world_actions.specs.World.{IsWord}
use Rattle.capture_core.specs.Taken.{taken_of}
use Rattle.capture_core.specs.Content.{all_touched, Marks, Takes}
use Rattle.capture_core.proofs.ContentLemmas.{none_behind, takes_none}
use Rattle.ping_pong.specs.PingPong.{Arrays, dirty_words, previous_entries, content_of, IsInOrder, built_arrays, written_arrays, swapped_arrays, taken_arrays}

-- there is an entry for each cell
length-dirty_words : (marks : List Bool) (words : List ℕ) → length marks ≡ length words → length (dirty_words marks words) ≡ length words
length-dirty_words [] words e = e
length-dirty_words (m ∷ marks) [] e = absurd (omega (arith, e))
length-dirty_words (m ∷ marks) (w ∷ words) e = ap suc (length-dirty_words marks words (omega (arith, e)))

-- an entry that is written is dirty
dirty_words-set : (marks : List Bool) (words : List ℕ) (i v : ℕ) → dirty_words (set marks i true) (set words i v) ≡ set (dirty_words marks words) i (Some v)
dirty_words-set [] words i v = refl
dirty_words-set (m ∷ marks) [] zero v = refl
dirty_words-set (m ∷ marks) [] (suc i) v = refl
dirty_words-set (m ∷ marks) (w ∷ words) zero v = refl
dirty_words-set (m ∷ marks) (w ∷ words) (suc i) v = ap (λ list. then_some m w ∷ list) (dirty_words-set marks words i v)

-- a dirty mark doesn't affect the entries after it
drop-dirty_words-set : (marks : List Bool) (words : List ℕ) (i : ℕ) (mark : Bool) → drop (i + 1) (dirty_words (set marks i mark) words) ≡ drop (i + 1) (dirty_words marks words)
drop-dirty_words-set marks words i mark = rw add-one (go marks words i mark)
  where
    go : (marks : List Bool) (words : List ℕ) (i : ℕ) (mark : Bool) → drop (suc i) (dirty_words (set marks i mark) words) ≡ drop (suc i) (dirty_words marks words)
    go [] words i mark = refl
    go (m ∷ marks) [] zero mark = refl
    go (m ∷ marks) [] (suc i) mark = refl
    go (m ∷ marks) (w ∷ words) zero mark = refl
    go (m ∷ marks) (w ∷ words) (suc i) mark = go marks words i mark

-- without a mark nothing is dirty
dirty_words-clean : (n : ℕ) (words words' : List ℕ) → length words ≡ n → length words' ≡ n → dirty_words (replicate n false) words ≡ dirty_words (replicate n false) words'
dirty_words-clean zero words words' e f = refl
dirty_words-clean (suc n) [] words' e f = absurd (omega (arith, e))
dirty_words-clean (suc n) (w ∷ words) [] e f = absurd (omega (arith, f))
dirty_words-clean (suc n) (w ∷ words) (x ∷ words') e f = ap (λ list. None ∷ list) (dirty_words-clean n words words' (omega (arith, e)) (omega (arith, f)))

-- an entry is its word if the mark is set, and nothing if it isn't
slice_get-dirty_words : (marks : List Bool) (words : List ℕ) (i word : ℕ) → length marks ≡ length words → slice_get words i ≡ Some word →
    (slice_get (dirty_words marks words) i ≡ Some (Some word)) ⊎ ((slice_get (dirty_words marks words) i ≡ Some None) × (slice_get marks i ≡ Some false))
slice_get-dirty_words [] words i word e at = absurd (omega (arith, e, slice_get_within words i word at))
slice_get-dirty_words (m ∷ marks) [] i word e at = absurd (omega (arith, e))
slice_get-dirty_words (true ∷ marks) (w ∷ words) zero word e at = inl (ap Some at)
slice_get-dirty_words (false ∷ marks) (w ∷ words) zero word e at = inr (refl, refl)
slice_get-dirty_words (m ∷ marks) (w ∷ words) (suc i) word e at = slice_get-dirty_words marks words i word (omega (arith, e)) at

-- there is an entry of the previous array for each cell
length-previous_entries : (store : Arrays) → IsInOrder store → length (previous_entries store) ≡ length store.live
length-previous_entries store ok = length-dirty_words store.previous.dirty store.previous.words (ok.previous_fits.1 ∙ sym ok.previous_fits.0) ∙ ok.previous_fits.0

-- how many cells are left
pub length-left : (store : Arrays) → IsInOrder store → length (content_of store).left ≡ length store.live - store.taken
length-left store ok = simp (length-drop, length-previous_entries store ok)

-- a write keeps a store in order
pub in_order-written_arrays : (store : Arrays) (i v : ℕ) → IsInOrder store → IsWord v → IsInOrder (written_arrays store i v)
in_order-written_arrays store i v ok word = record {
  current_fits = (
    length-set store.current.words i v ∙ ok.current_fits.0 ∙ sym (length-set store.live i v),
    length-set store.current.dirty i true ∙ ok.current_fits.1 ∙ sym (length-set store.live i v),
    All-set IsWord store.current.words i v word ok.current_fits.2,
  );
  previous_fits = (ok.previous_fits.0 ∙ sym (length-set store.live i v), ok.previous_fits.1 ∙ sym (length-set store.live i v), ok.previous_fits.2);
  taken_most = omega (arith, ok.taken_most, length-set store.live i v);
  live_words = All-set IsWord store.live i v word ok.live_words;
  as_live = dirty_words-set store.current.dirty store.current.words i v ∙ ap (λ list. set list i (Some v)) ok.as_live ∙ sym (dirty_words-set store.current.dirty store.live i v);
  clean = ok.clean;
}

-- if nothing is left, every entry of the previous array is clean
clean-at_end : (store : Arrays) → IsInOrder store → (content_of store).left ≡ [] → store.previous.dirty ≡ replicate (length store.live) false
clean-at_end store ok none =
    let end : length store.live ≤ store.taken = omega (arith, length-left store ok, ap length none) in
    let all : store.taken ≡ length store.live = omega (arith, ok.taken_most) in
    sym (take_all store.taken store.previous.dirty (omega (arith, ok.previous_fits.1))) ∙ ok.clean ∙ ap (λ n. replicate n false) all

-- a mark keeps a store in order
pub in_order-swapped_arrays : (store : Arrays) → IsInOrder store → (content_of store).left ≡ [] → IsInOrder (swapped_arrays store)
in_order-swapped_arrays store ok none = record {
  current_fits = ok.previous_fits;
  previous_fits = ok.current_fits;
  taken_most = omega arith;
  live_words = ok.live_words;
  as_live =
      let clean = clean-at_end store ok none in
      ap (λ marks. dirty_words marks store.previous.words) clean
      ∙ dirty_words-clean (length store.live) store.previous.words store.live ok.previous_fits.0 refl
      ∙ sym (ap (λ marks. dirty_words marks store.live) clean);
  clean = refl;
}

-- a mark leaves the word of each dirty entry of the array that was current
pub marks-swapped_arrays : (store : Arrays) → IsInOrder store → Marks (content_of store) (content_of (swapped_arrays store))
marks-swapped_arrays store ok = record {
  live = refl;
  cells = length-dirty_words store.current.dirty store.current.words (ok.current_fits.1 ∙ sym ok.current_fits.0) ∙ ok.current_fits.0;
  left = λ i word at. subst (λ list. (slice_get list i ≡ Some (Some word)) ⊎ ((slice_get list i ≡ Some None) × (slice_get store.current.dirty i ≡ Some false))) (sym ok.as_live)
      (slice_get-dirty_words store.current.dirty store.live i word ok.current_fits.1 at);
}

-- the content of a store just built
pub content_of-built_arrays : (words : List ℕ) → content_of (built_arrays words) ≡ all_touched words []
content_of-built_arrays words =
    ap (λ left. record { live = words; touched = replicate (length words) true; left = left })
    (drop_all (length words) (dirty_words (replicate (length words) false) words) (omega (arith, length-dirty_words (replicate (length words) false) words (length-replicate (length words) false))))

-- a take if a cell is left
pub takes-entry : (store : Arrays) (entry : Option ℕ) → Some entry ≡ slice_get (previous_entries store) store.taken →
    Takes (content_of store) (Some (taken_of entry)) (content_of (taken_arrays store))
takes-entry store entry is =
    let lt : store.taken < length (previous_entries store) = slice_get_within (previous_entries store) store.taken entry (sym is) in
    let at : get_or (previous_entries store) store.taken None ≡ entry = get_or_from_slice_get (previous_entries store) store.taken entry None (sym is) in
    let split : drop store.taken (previous_entries store) ≡ entry ∷ drop (store.taken + 1) (previous_entries store) =
    drop_more (previous_entries store) store.taken None lt ∙ ap (λ e. e ∷ drop (store.taken + 1) (previous_entries store)) at in
    record {
      gives = sym (ap (λ list. option_map taken_of (slice_get list 0)) split);
      rest = ap (λ left. record (content_of store) { left = left }) (drop-dirty_words-set store.previous.dirty store.previous.words store.taken false ∙ sym (ap (λ list. drop 1 list) split));
    }

-- a take if none is left
pub takes-none : (store : Arrays) → None ≡ slice_get (previous_entries store) store.taken → Takes (content_of store) None (content_of store)
takes-none store is = takes_none (content_of store) (none_behind (previous_entries store) store.taken is)

-- there is no entry past the last cell
pub entry-none : (store : Arrays) → IsInOrder store → length store.live ≤ store.taken → None ≡ slice_get (previous_entries store) store.taken
entry-none store ok le = sym (slice_get_past (previous_entries store) store.taken (omega (arith, length-previous_entries store ok)))

-- the entry of a cell
get_or-dirty_words : (marks : List Bool) (words : List ℕ) (i : ℕ) → length marks ≡ length words → i < length words →
    slice_get (dirty_words marks words) i ≡ Some (then_some (get_or marks i false) (get_or words i 0))
get_or-dirty_words [] words i e lt = absurd (omega (arith, e, lt))
get_or-dirty_words (m ∷ marks) [] i e lt = absurd (omega (arith, lt))
get_or-dirty_words (m ∷ marks) (w ∷ words) zero e lt = refl
get_or-dirty_words (m ∷ marks) (w ∷ words) (suc i) e lt = get_or-dirty_words marks words i (omega (arith, e)) (omega (arith, lt))

-- the answer of a take, from the mark and the word that the code reads
pub entry-is : (store : Arrays) (mark : Bool) (word : ℕ) (entry : Option ℕ) → IsInOrder store → store.taken < length store.live →
    mark ≡ get_or store.previous.dirty store.taken false → word ≡ get_or store.previous.words store.taken word →
    entry ≡ then_some mark word → Some entry ≡ slice_get (previous_entries store) store.taken
entry-is store mark word entry ok lt m w is =
    let value : word ≡ get_or store.previous.words store.taken 0 = get_or_read store.previous.words store.taken word (omega (arith, ok.previous_fits.0)) w 0 in
    ap (λ e. Some e) (is ∙ ap (λ b. then_some b word) m ∙ ap (λ v. then_some (get_or store.previous.dirty store.taken false) v) value)
    ∙ sym (get_or-dirty_words store.previous.dirty store.previous.words store.taken (ok.previous_fits.1 ∙ sym ok.previous_fits.0) (omega (arith, ok.previous_fits.0)))
