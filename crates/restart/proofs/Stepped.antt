-- Takes and openings keep the facts on the store and the round.
use Rattle.std.proofs.Common.{rules}
use Rattle.std.proofs.Common.{◌≡◌, ℕ, ◌+◌, ◌<◌, inl, inr, List, [], ◌∷◌, ◌++◌, length, take, drop, get_or, Option, Some, None, option_map, Result, Ok, refl, sym, ap, subst, ◌∙◌, append_assoc, arith}
use Rattle.std.specs.Prelude.{slice_get}
use Rattle.std.proofs.lemmas.List.{take_all, take_at, length-append, append-nil, drop-drop, get_or-drop}
use Rattle.world_actions.specs.declared.action.Action.{Action}
use Rattle.world_actions.specs.declared.refusal.Refusal.{Refusal}
use Rattle.world_ticks.specs.After.{after_ticks}
use Rattle.capture_core.specs.declared.taker.Taken.{Taken}
use Rattle.capture_core.specs.Taken.{taken_of}
use Rattle.capture_core.specs.Content.{Content, Takes, Covers}
use Rattle.image_files.specs.declared.answer.ImageAnswer.{ImageAnswer}
use Rattle.image_files.specs.declared.answer.ImageAnswer.TheVariants as answer
use Rattle.image_files.specs.Taken.{word_of}
use Rattle.image_files.specs.Images.{Round, Images, FirstImages, ImageFiles, NoneYet, Newest, round_in, with_cell, with_taken, with_opened, StepsImages}
use Rattle.recovery.specs.Sound.{IsWorldAt}
use Rattle.recovery.specs.Follow.{IsRoundOf}
use Rattle.recovery.specs.Start.{IsFirstRound}
use Rattle.restart.specs.Rounds.{words_left, IsRoundOver, StoreFollows, StoreFollowsImages, words_of}

-- a front of the whole length is the whole
whole_front : {A : Type 0} (front rest whole : List A) → front ++ rest ≡ whole → length front ≡ length whole → front ≡ whole
whole_front front rest whole e l = sym (take_at front rest (length front) refl) ∙ ap (take (length front)) e ∙ take_all (length front) whole (omega (arith, l))

-- ---- a cell is taken

head_taken : (left : List (Option ℕ)) (cell : Taken) (newest : List ℕ) → Some cell ≡ option_map taken_of (slice_get left 0)
    → words_left left newest ≡ word_of cell (get_or newest 0 0) ∷ words_left (drop 1 left) (drop 1 newest)
head_taken b cell newest e = search rules

takes_round : (cells : ℕ) (newest taken marked : List ℕ) (old new : Content) (cell : Taken) → Takes old (Some cell) new → IsRoundOver cells newest taken marked old
    → IsRoundOver cells newest (taken ++ word_of cell (get_or newest (length taken) 0) ∷ []) marked new
takes_round cells newest taken marked old new cell t r =
    let word = word_of cell (get_or newest (length taken) 0) in
    let rest = drop (length taken) newest in
    let one : length (taken ++ word ∷ []) ≡ length taken + 1 = length-append taken (word ∷ []) in
    let first : get_or rest 0 0 ≡ get_or newest (length taken) 0 = get_or-drop (length taken) newest 0 0 ∙ ap (λ n. get_or newest n 0) (let e : length taken + 0 ≡ length taken = omega arith in e) in
    let after : drop 1 rest ≡ drop (length (taken ++ word ∷ [])) newest = drop-drop 1 (length taken) newest ∙ ap (λ n. drop n newest) (sym one) in
    let split : words_left old.left rest ≡ word ∷ words_left new.left (drop (length (taken ++ word ∷ [])) newest) =
    head_taken old.left cell rest t.gives
    ∙ ap (λ w. word_of cell w ∷ words_left (drop 1 old.left) (drop 1 rest)) first
    ∙ ap (λ (c : Content). word ∷ words_left c.left (drop 1 rest)) (sym t.rest)
    ∙ ap (λ l. word ∷ words_left new.left l) after in
    record {
      whole = r.whole;
      words = append_assoc taken (word ∷ []) (words_left new.left (drop (length (taken ++ word ∷ [])) newest)) ∙ ap (λ l. taken ++ l) (sym split) ∙ r.words;
      covers = subst (Covers marked) (sym t.rest) r.covers;
    }

takes_store : (first : List ℕ) (ticks : List (List Action)) (old new : Content) (cell : Taken) (newest : List ℕ)
    (round : Option Round) → Takes old (Some cell) new → StoreFollows first ticks old newest round → StoreFollows first ticks new newest (option_map (with_cell cell newest) round)
takes_store first ticks old new cell newest b t s = search (rules, takes_round)

taken_follows : (first : List ℕ) (ticks : List (List Action)) (old new : Content) (cell : Taken) (images : ImageFiles)
    → Takes old (Some cell) new → StoreFollowsImages first ticks old images → StoreFollowsImages first ticks new (with_taken cell images)
taken_follows first ticks old new cell (NoneYet images) t s = takes_store first ticks old new cell [] images.round t s
taken_follows first ticks old new cell (Newest images) t s = takes_store first ticks old new cell images.words images.round t s

-- ---- all cells are taken

none_left : (left : List (Option ℕ)) (newest : List ℕ) → words_left left newest ≡ [] → left ≡ []
none_left [] newest e = refl
none_left (entry ∷ left) newest e = absurd (let h = e in cc)

append_nothing : {A : Type 0} (front rest : List A) → front ++ rest ≡ front → rest ≡ []
append_nothing [] rest e = e
append_nothing (x ∷ front) rest e = append_nothing front rest (let h = e in cc)

taken_whole : (cells : ℕ) (newest taken marked : List ℕ) (content : Content) → IsRoundOver cells newest taken marked content → length taken ≡ cells → taken ≡ marked
taken_whole cells newest taken marked content r full = whole_front taken (words_left content.left (drop (length taken) newest)) marked r.words (full ∙ sym r.whole)

opened_store : (first : List ℕ) (ticks : List (List Action)) (content : Content) (newest : List ℕ) (round : Round)
    → length round.taken ≡ length first → StoreFollows first ticks content newest (Some round) → StoreFollows first ticks content round.taken None
opened_store first ticks content newest round full s =
    let same = taken_whole (length first) newest round.taken s.0 content s.2 full in
    let rest : words_left content.left (drop (length round.taken) newest) ≡ [] = append_nothing round.taken (words_left content.left (drop (length round.taken) newest)) (s.2.words ∙ sym same) in
    (none_left content.left (drop (length round.taken) newest) rest, subst (λ w. Covers w content) (sym same) s.2.covers)

opened_follows : (first : List ℕ) (ticks : List (List Action)) (content : Content) (round : Round) (images : ImageFiles)
    → round_in images ≡ Some round → length round.taken ≡ length first → StoreFollowsImages first ticks content images
    → StoreFollowsImages first ticks content (with_opened round images)
opened_follows first ticks content round (NoneYet images) is full s = opened_store first ticks content [] round full (subst (StoreFollows first ticks content []) is s)
opened_follows first ticks content round (Newest images) is full s = opened_store first ticks content images.words round full (subst (StoreFollows first ticks content images.words) is s)

missing_none : (first : List ℕ) (ticks : List (List Action)) (content : Content) (newest : List ℕ) (round : Option Round)
    (r : Round) → round ≡ Some r → content.left ≡ [] → StoreFollows first ticks content newest round → length r.taken ≡ length first
missing_none first ticks content newest round r is none s =
    let f : StoreFollows first ticks content newest (Some r) = subst (StoreFollows first ticks content newest) is s in
    let whole : r.taken ≡ f.0 = sym (append-nil r.taken) ∙ ap (λ l. r.taken ++ words_left l (drop (length r.taken) newest)) (sym none) ∙ f.2.words in
    ap length whole ∙ f.2.whole

pub all_are_taken : (first : List ℕ) (ticks : List (List Action)) (content : Content) (images : ImageFiles) (round : Round)
    → round_in images ≡ Some round → content.left ≡ [] → StoreFollowsImages first ticks content images → length round.taken ≡ length first
all_are_taken first ticks content images round = missing_none first ticks content (words_of images) (round_in images) round

-- ---- a step of the image keeper

module _ (first : List ℕ) (ticks : List (List Action)) where
  same_follows : (images next : ImageFiles) (old new : Content) → next ≡ images → new ≡ old → StoreFollowsImages first ticks old images → StoreFollowsImages first ticks new next
  same_follows images next old new i c s = subst (StoreFollowsImages first ticks new) (sym i) (subst (λ (k : Content). StoreFollowsImages first ticks k images) (sym c) s)

  pub step_follows : (images : ImageFiles) (given : ImageAnswer) (next : ImageFiles) (old new : Content)
      → StepsImages Takes (length first) images given next old new → StoreFollowsImages first ticks old images → StoreFollowsImages first ticks new next
  step_follows images answer.Idle next old new s f = same_follows images next old new s.1 s.2 f
  step_follows images answer.Working next old new s f = elim s.2 [
    | inl same ↦ same_follows images next old new same.0 same.1 f
    | inr cell ↦ subst (StoreFollowsImages first ticks new) (sym cell.2) (taken_follows first ticks old new cell.0 images cell.1 f)
  ]
  step_follows images (answer.Opened tick) next old new s f = same_follows (with_opened s.0 images) next old new s.4 s.5 (opened_follows first ticks old s.0 images s.1 s.3 f)
  step_follows images answer.Down next old new s f = same_follows images next old new s.2 s.3 f

-- the step by the content of the store that the keeper took from
module _ {S : Type 0} (content : S → Content) (took : S → Option Taken → S → Type 0)
    (after_take : (old new : S) (given : Option Taken) → took old given new → Takes (content old) given (content new)) where
  pub steps_content : (cells : ℕ) (images : ImageFiles) (given : ImageAnswer) (next : ImageFiles) (old new : S)
      → StepsImages took cells images given next old new → StepsImages Takes cells images given next (content old) (content new)
  steps_content cells images b next old new s = search rules

-- ---- the round in work

abbrev tick_of : Option Round → ℕ
tick_of None = 0
tick_of (Some round) = round.tick

same_ticks : (round : Round) (now : Option Round) → now ≡ Some round → (r : Round) → now ≡ Some r → r.tick ≡ round.tick
same_ticks round now is r e = ap tick_of (sym e ∙ is)

taken_ticks : (cell : Taken) (newest : List ℕ) (round : Round) (now : Option Round) → now ≡ Some round → (r : Round) → option_map (with_cell cell newest) now ≡ Some r → r.tick ≡ round.tick
taken_ticks cell newest round now is r e = ap tick_of (sym e ∙ ap (option_map (with_cell cell newest)) is)

with_taken_ticks : (cell : Taken) (images : ImageFiles) (round : Round) → round_in images ≡ Some round → (r : Round) → round_in (with_taken cell images) ≡ Some r → r.tick ≡ round.tick
with_taken_ticks cell b round is = search (rules, taken_ticks)

with_opened_none : (round : Round) (images : ImageFiles) → round_in (with_opened round images) ≡ None
with_opened_none round b = search rules

-- a round that is in work after a step was in work before it, with the same tick
step_ticks : (cells : ℕ) (old new : Content) (images : ImageFiles) (given : ImageAnswer) (next : ImageFiles) → StepsImages Takes cells images given next old new
    → (r : Round) → round_in next ≡ Some r → (was : Round) × (round_in images ≡ Some was) × (r.tick ≡ was.tick)
step_ticks cells old new images answer.Idle next s r e = (r, ap round_in (sym s.1) ∙ e, refl)
step_ticks cells old new images answer.Working next s r e = (
  s.0,
  s.1,
  elim s.2 [
    | inl same ↦ same_ticks s.0 (round_in images) s.1 r (ap round_in (sym same.0) ∙ e)
    | inr cell ↦ with_taken_ticks cell.0 images s.0 s.1 r (ap round_in (sym cell.2) ∙ e)
  ],
)
step_ticks cells old new images (answer.Opened tick) next s r e = absurd (let g : None ≡ Some r = sym (with_opened_none s.0 images) ∙ ap round_in (sym s.4) ∙ e in cc)
step_ticks cells old new images answer.Down next s r e = (s.0, s.1, same_ticks s.0 (round_in images) s.1 r (ap round_in (sym s.2) ∙ e))

round_above : (first : List ℕ) (ticks : List (List Action)) (tick : ℕ) (round : Option Round) (r : Round) → round ≡ Some r → IsRoundOf first ticks tick round → tick < r.tick
round_above first ticks tick round r is h = (let g : IsRoundOf first ticks tick (Some r) = subst (IsRoundOf first ticks tick) is h in g.0)

round_store : (first : List ℕ) (ticks : List (List Action)) (tick : ℕ) (content : Content) (newest : List ℕ)
    (round : Option Round) → ((r : Round) → round ≡ Some r → tick < r.tick) → StoreFollows first ticks content newest round → IsRoundOf first ticks tick round
round_store first ticks tick content newest None above s = tt
round_store first ticks tick content newest (Some round) above s =
    (above round refl, λ full. subst (IsWorldAt first ticks round.tick) (sym (taken_whole (length first) newest round.taken s.0 content s.2 full)) s.1)

pub round_follows : (first : List ℕ) (ticks : List (List Action)) (images : Images) (given : ImageAnswer) (next : ImageFiles)
    (old new : Content) → StepsImages Takes (length first) (Newest images) given next old new → IsRoundOf first ticks images.tick images.round
    → StoreFollowsImages first ticks new next → IsRoundOf first ticks images.tick (round_in next)
round_follows first ticks images given next old new s h = search (rules, round_above, round_store, step_ticks)

ok_injective : (v w : List ℕ) → ◌≡◌ {A = Result (List ℕ) Refusal} (Ok v) (Ok w) → v ≡ w
ok_injective v w e = cc

first_store : (first : List ℕ) (content : Content) (newest : List ℕ) (round : Option Round)
    → ((r : Round) → round ≡ Some r → r.tick ≡ 0) → StoreFollows first [] content newest round → IsFirstRound first round
first_store first content newest None zero s = tt
first_store first content newest (Some round) zero s =
    let zeros : s.0 ≡ first = ok_injective s.0 first (sym s.1.words_are ∙ ap (after_ticks first) (take_all round.tick [] (omega arith))) in
    (zero round refl, λ full. taken_whole (length first) newest round.taken s.0 content s.2 full ∙ zeros)

round_zero : (first : List ℕ) (round : Option Round) (r : Round) → round ≡ Some r → IsFirstRound first round → r.tick ≡ 0
round_zero first round r is h = (let g : IsFirstRound first (Some r) = subst (IsFirstRound first) is h in g.0)

pub first_round_follows : (first : List ℕ) (images : FirstImages) (given : ImageAnswer) (next : ImageFiles) (old new : Content)
    → StepsImages Takes (length first) (NoneYet images) given next old new → IsFirstRound first images.round
    → StoreFollowsImages first [] new next → IsFirstRound first (round_in next)
first_round_follows first images given next old new s h = search (rules, first_store, round_zero, step_ticks)
