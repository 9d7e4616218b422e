-- A round is taken into an image, cell by cell.
use Rattle.std.proofs.Common.{◌≡◌, refl, sym, ◌∙◌, ap, subst, ℕ, zero, suc, ◌+◌, ◌<◌, ◌≤◌, inl, inr, List, [], ◌∷◌, ◌++◌, length, map, take, drop, get_or, set, Option, Some, arith}
use Rattle.std.proofs.lemmas.Grind.{common_steps}
use Rattle.std.proofs.lemmas.Option.{slice_get-get_or, same_Some}
use Rattle.std.proofs.lemmas.List.{set_at, drop-drop, take_more}
use Rattle.std.specs.List.{slice_get}
use Rattle.std.specs.Option.{option_map}
use Rattle.world_actions.specs.Effect.{written}
use Rattle.capture_core.specs.declared.taker.Taken.{Taken}
use Rattle.capture_core.specs.declared.taker.Taken.TheVariants.{Word, Same}
use Rattle.capture_core.specs.Taken.{taken_of}
use Rattle.capture_core.specs.Content.{Content, Covers, content_after, Marks, Takes}
use Rattle.capture_core.specs.Rounds.{with_taken, write_of}
use Rattle.capture_core.proofs.ContentLemmas.{covers-write}

-- the first of the items that are left is the item at the place where they begin
slice_get-drop : {X : Type 0} (n : ℕ) (xs : List X) → slice_get (drop n xs) 0 ≡ slice_get xs n
slice_get-drop zero [] = refl
slice_get-drop zero (x ∷ xs) = refl
slice_get-drop (suc n) [] = refl
slice_get-drop (suc n) (x ∷ xs) = slice_get-drop n xs

-- the front of a list before the rest of another, one element further
one_further : (front rest : List ℕ) (i : ℕ) → i < length front → take i front ++ get_or front i 0 ∷ drop (i + 1) rest ≡ take (i + 1) front ++ drop (i + 1) rest
one_further front rest i within = grind (arith, common_steps)

-- one more cell of the image
with_taken-front : (old marked : Content) (image0 image : List ℕ) (i : ℕ) (answer : Option Taken)
    → Marks old marked → Covers image0 old → length image0 ≡ length old.live → i < length image0
    → image ≡ take i old.live ++ drop i image0 → answer ≡ option_map taken_of (slice_get (drop i marked.left) 0)
    → with_taken image i answer ≡ take (i + 1) old.live ++ drop (i + 1) image0
with_taken-front old marked image0 image i answer marks covers cells below front gives =
    let within : i < length old.live = omega arith in
    let word : slice_get old.live i ≡ Some (get_or old.live i 0) = slice_get-get_or old.live i 0 within in
    let split : drop i image0 ≡ get_or image0 i 0 ∷ drop (i + 1) image0 = grind (arith, common_steps) in
    let taken : length (take i old.live) ≡ i = grind (arith, common_steps) in
    let further = one_further old.live image0 i within in
    elim (marks.left i (get_or old.live i 0) word) [
      | inl left ↦
          let is : answer ≡ Some (Word (get_or old.live i 0)) = gives ∙ ap (option_map taken_of) (slice_get-drop i marked.left ∙ left) in
          let becomes : with_taken image i answer ≡ set image i (get_or old.live i 0) = ap (with_taken image i) is in
          let placed : set (take i old.live ++ get_or image0 i 0 ∷ drop (i + 1) image0) i (get_or old.live i 0)
          ≡ take i old.live ++ get_or old.live i 0 ∷ drop (i + 1) image0 = set_at (take i old.live) _ _ _ i taken in
          cc
      | inr (left, untouched) ↦
          let is : answer ≡ Some Same = gives ∙ ap (option_map taken_of) (slice_get-drop i marked.left ∙ left) in
          let becomes : with_taken image i answer ≡ image = ap (with_taken image i) is in
          let had : slice_get image0 i ≡ Some (get_or image0 i 0) = slice_get-get_or image0 i 0 below in
          let same : get_or image0 i 0 ≡ get_or old.live i 0 = same_Some _ _ (sym had ∙ covers i untouched ∙ word) in
          cc
    ]

-- one more change
written-more : (words : List ℕ) (changes : List (ℕ × ℕ)) (i : ℕ) (d : ℕ × ℕ) → i < length changes
    → written words (map write_of (take (i + 1) changes)) ≡ set (written words (map write_of (take i changes))) (get_or changes i d).0 (get_or changes i d).1
written-more words changes i d below =
    ap (λ list. written words (map write_of list)) (take_more changes i d below) ∙ snoc words (take i changes) (get_or changes i d)
  where
    snoc : (words : List ℕ) (changes : List (ℕ × ℕ)) (last : ℕ × ℕ) → written words (map write_of (changes ++ last ∷ [])) ≡ set (written words (map write_of changes)) last.0 last.1
    snoc words [] last = refl
    snoc words (change ∷ changes) last = snoc (set words change.0 change.1) changes last

-- a round in work: i of its cells are in the image, and i of the changes are made
pub record Copying (old marked : Content) (image0 : List ℕ) (changes : List (ℕ × ℕ)) (i : ℕ) (now : Content) (image : List ℕ) : Type 0 where
  pub left : now.left ≡ drop i marked.left
  pub front : image ≡ take i old.live ++ drop i image0
  pub live : now.live ≡ written old.live (map write_of (take i changes))
  pub covered : Covers old.live now

-- a round in work may continue by a take
pub record GoesOn (old marked : Content) (image0 : List ℕ) (i : ℕ) : Type 0 where
  pub marks : Marks old marked
  pub covers : Covers image0 old
  pub cells : length image0 ≡ length old.live
  pub below : i < length image0

-- after a take everything is one cell further, except the next change
record Took (old marked : Content) (image0 : List ℕ) (changes : List (ℕ × ℕ)) (i : ℕ) (now : Content) (image : List ℕ) : Type 0 where
  pub left : now.left ≡ drop (i + 1) marked.left
  pub front : image ≡ take (i + 1) old.live ++ drop (i + 1) image0
  pub live : now.live ≡ written old.live (map write_of (take i changes))
  pub covered : Covers old.live now

-- a take
took : {old marked : Content} {image0 : List ℕ} {changes : List (ℕ × ℕ)} {i : ℕ} {now : Content} {image : List ℕ}
    → Copying old marked image0 changes i now image → GoesOn old marked image0 i
    → (answer : Option Taken) (next : Content) → Takes now answer next → (image' : List ℕ) → image' ≡ with_taken image i answer
    → Took old marked image0 changes i next image'
took {old} {marked} {image0} {changes} {i} {now} {image} copying on answer next takes image' becomes = record {
  left = ap (λ store. store.left) takes.rest ∙ ap (drop 1) copying.left ∙ drop-drop 1 i marked.left;
  front =
      becomes ∙ with_taken-front old marked image0 image i answer on.marks on.covers on.cells on.below copying.front (takes.gives ∙ ap (λ left. option_map taken_of (slice_get left 0)) copying.left);
  live = ap (λ store. store.live) takes.rest ∙ copying.live;
  covered = subst (λ (store : Content). Covers old.live store) (sym takes.rest) copying.covered;
}

-- a take, and the next change
pub copying-write : {old marked : Content} {image0 : List ℕ} {changes : List (ℕ × ℕ)} {i : ℕ} {now : Content} {image : List ℕ}
    → Copying old marked image0 changes i now image → GoesOn old marked image0 i
    → (answer : Option Taken) (next : Content) → Takes now answer next → (image' : List ℕ) → image' ≡ with_taken image i answer
    → (d : ℕ × ℕ) → i < length changes → (after : Content) → after ≡ content_after next (write_of (get_or changes i d) ∷ [])
    → Copying old marked image0 changes (i + 1) after image'
copying-write {old} {marked} {image0} {changes} {i} copying on answer next takes image' becomes d more after is =
    let t = took copying on answer next takes image' becomes in
    record {
      left = ap (λ store. store.left) is ∙ t.left;
      front = t.front;
      live = ap (λ store. store.live) is ∙ ap (λ words. set words (get_or changes i d).0 (get_or changes i d).1) t.live ∙ sym (written-more old.live changes i d more);
      covered = subst (λ (store : Content). Covers old.live store) (sym is) (covers-write old.live (write_of (get_or changes i d)) next t.covered);
    }

-- a take, if all changes are made
pub copying-kept : {old marked : Content} {image0 : List ℕ} {changes : List (ℕ × ℕ)} {i : ℕ} {now : Content} {image : List ℕ}
    → Copying old marked image0 changes i now image → GoesOn old marked image0 i
    → (answer : Option Taken) (next : Content) → Takes now answer next → (image' : List ℕ) → image' ≡ with_taken image i answer
    → length changes ≤ i → Copying old marked image0 changes (i + 1) next image'
copying-kept {old} {marked} {image0} {changes} {i} copying on answer next takes image' becomes over =
    let t = took copying on answer next takes image' becomes in
    let all : take i changes ≡ take (i + 1) changes = grind (arith, common_steps) in
    record { left = t.left; front = t.front; live = t.live ∙ ap (λ list. written old.live (map write_of list)) all; covered = t.covered }
