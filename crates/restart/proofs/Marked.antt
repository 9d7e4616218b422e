-- A mark begins a round, and writes and ticks leave it.
use Rattle.std.proofs.Common.{rules}
use Rattle.std.proofs.Common.{◌≡◌, ℕ, suc, ◌⊎◌, inl, inr, List, [], ◌∷◌, ◌++◌, length, drop, get_or, Option, Some, None, refl, sym, ap, ◌∙◌, arith}
use Rattle.std.specs.Prelude.{slice_get}
use Rattle.std.proofs.lemmas.List.{length-append, take-append-le}
use Rattle.std.proofs.lemmas.Option.{get_or_from_slice_get}
use Rattle.world_actions.specs.declared.action.Action.{Action}
use Rattle.capture_core.specs.Taken.{taken_of}
use Rattle.capture_core.specs.Content.{Content, Marks, Covers}
use Rattle.image_files.specs.Taken.{word_of}
use Rattle.image_files.specs.Images.{Round, ImageFiles, round_in}
use Rattle.recovery.specs.Sound.{IsWorldAt}
use Rattle.restart.specs.Rounds.{words_left, StoreFollows, StoreFollowsImages, words_of}

-- ---- a mark

first_word : (entry : Option ℕ) (newest : List ℕ) (word : ℕ) → (Some entry ≡ Some (Some word))
    ⊎ ((Some entry ≡ Some None) × (slice_get newest 0 ≡ Some word)) → word_of (taken_of entry) (get_or newest 0 0) ≡ word
first_word b newest word d = search (rules, get_or_from_slice_get)

get_past_one : (newest : List ℕ) (i : ℕ) → slice_get newest (suc i) ≡ slice_get (drop 1 newest) i
get_past_one b i = search rules

mark_words : (left : List (Option ℕ)) (live newest : List ℕ) → length left ≡ length live
    → ((i word : ℕ) → slice_get live i ≡ Some word → (slice_get left i ≡ Some (Some word)) ⊎ ((slice_get left i ≡ Some None) × (slice_get newest i ≡ Some word)))
    → words_left left newest ≡ live
mark_words [] [] newest l h = refl
mark_words [] (word ∷ live) newest l h = absurd (omega (arith, l))
mark_words (entry ∷ left) [] newest l h = absurd (omega (arith, l))
mark_words (entry ∷ left) (word ∷ live) newest l h =
    let rest : words_left left (drop 1 newest) ≡ live = mark_words left live (drop 1 newest) (omega (arith, l))
    (λ i w at. elim (h (suc i) w at) [ inl e ↦ inl e | inr e ↦ inr (e.0, sym (get_past_one newest i) ∙ e.1) ]) in
    ap (λ w. w ∷ words_left left (drop 1 newest)) (first_word entry newest word (h 0 word refl)) ∙ ap (λ l. word ∷ l) rest

pub mark_follows : (first : List ℕ) (ticks : List (List Action)) (tick : ℕ) (newest : List ℕ) (old new : Content)
    → length old.live ≡ length first → IsWorldAt first ticks tick old.live → Covers newest old → Marks old new
    → StoreFollows first ticks new newest (Some (record { tick = tick; taken = [] }))
mark_follows first ticks tick newest old new all at covers m = (
  old.live,
  at,
  record {
    whole = all;
    words = mark_words new.left old.live newest m.cells (λ i word e. elim (m.left i word e) [ inl h ↦ inl h | inr h ↦ inr (h.0, covers i h.1 ∙ e) ]);
    covers = λ i none. ap (λ l. slice_get l i) (sym m.live);
  },
)

-- ---- writes

writes_store : (first : List ℕ) (ticks : List (List Action)) (old new : Content) (newest : List ℕ) (round : Option Round)
    → new.left ≡ old.left → ((image : List ℕ) → Covers image old → Covers image new)
    → StoreFollows first ticks old newest round → StoreFollows first ticks new newest round
writes_store first ticks old new newest b left covers s = search rules

pub writes_follow : (first : List ℕ) (ticks : List (List Action)) (old new : Content) (images : ImageFiles) → new.left ≡ old.left → ((image : List ℕ) → Covers image old → Covers image new)
    → StoreFollowsImages first ticks old images → StoreFollowsImages first ticks new images
writes_follow first ticks old new images = writes_store first ticks old new (words_of images) (round_in images)

-- ---- ticks

ticks_store : (first : List ℕ) (ticks more : List (List Action)) (content : Content) (newest : List ℕ) (round : Option Round)
    → StoreFollows first ticks content newest round → StoreFollows first (ticks ++ more) content newest round
ticks_store first ticks more content newest b s = search (rules, length-append, take-append-le)

pub ticks_follow : (first : List ℕ) (ticks more : List (List Action)) (content : Content) (images : ImageFiles)
    → StoreFollowsImages first ticks content images → StoreFollowsImages first (ticks ++ more) content images
ticks_follow first ticks more content images = ticks_store first ticks more content (words_of images) (round_in images)
