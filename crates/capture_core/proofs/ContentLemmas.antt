-- The contents of stores, and the effect of writes on them.
use Rattle.std.proofs.Common.{◌≡◌, refl, sym, ◌∙◌, ap, ℕ, suc, zero, Bool, true, List, [], ◌∷◌, length, drop, replicate, set, ◌≢◌, subst, inl, inr, false, Some, None}
use Rattle.std.proofs.lemmas.List.{length-set, drop_all}
use Rattle.std.proofs.lemmas.Option.{none-some, same_Some, slice_get_cases}
use Rattle.std.proofs.lemmas.Bool.{cases_eq}
use Rattle.std.specs.List.{slice_get}
use Rattle.std.specs.Option.{option_map}
use Rattle.world_actions.specs.Effect.{Write, written}
use Rattle.world_ticks.specs.Cells.{Access, Read, Wrote, Accesses, writes_among, Performs}
use Rattle.capture_core.specs.Taken.{taken_of}
use Rattle.capture_core.specs.Content.{Content, all_touched, content_after, Takes, Covers}

-- if all items are the same, writing that item again changes nothing
set-replicate : (n i : ℕ) (b : Bool) → set (replicate n b) i b ≡ replicate n b
set-replicate zero i b = refl
set-replicate (suc n) zero b = refl
set-replicate (suc n) (suc i) b = ap (λ bs. b ∷ bs) (set-replicate n i b)

-- a write to a store all of whose cells are touched
pub all_touched-set : (live rest : List ℕ) (i v : ℕ) → all_touched (set live i v) rest ≡ content_after (all_touched live rest) (record { cell = i; word = v } ∷ [])
all_touched-set live rest i v =
    let touched : replicate (length (set live i v)) true ≡ set (replicate (length live) true) i true = rw length-set (sym (set-replicate (length live) i true)) in
    cc

-- writes keep the number of words
pub length-written : (words : List ℕ) (writes : List Write) → length (written words writes) ≡ length words
length-written words [] = refl
length-written words (write ∷ writes) = length-written (set words write.cell write.word) writes ∙ length-set words write.cell write.word

-- any accesses, by the effect of one of them
content-accesses : {S : Type 0} (content : S → Content) (accessed : S → Access → S → Type 0)
    → ((old new : S) (access : Access) → accessed old access new → content new ≡ content_after (content old) (writes_among (access ∷ [])))
    → (accesses : List Access) (old new : S) → Accesses accessed old accesses new → content new ≡ content_after (content old) (writes_among accesses)
content-accesses content accessed one [] old new lead = ap content lead
content-accesses content accessed one (Read i ∷ accesses) old new lead =
    content-accesses content accessed one accesses lead.0 new lead.2
    ∙ ap (λ store. content_after store (writes_among accesses)) (one old lead.0 (Read i) lead.1)
content-accesses content accessed one (Wrote write ∷ accesses) old new lead =
    content-accesses content accessed one accesses lead.0 new lead.2
    ∙ ap (λ store. content_after store (writes_among accesses)) (one old lead.0 (Wrote write) lead.1)

pub content-performs : {S : Type 0} (content : S → Content) (accessed : S → Access → S → Type 0)
    → ((old new : S) (access : Access) → accessed old access new → content new ≡ content_after (content old) (writes_among (access ∷ [])))
    → (old new : S) (writes : List Write) → Performs accessed old writes new → content new ≡ content_after (content old) writes
content-performs content accessed one old new writes performs =
    content-accesses content accessed one performs.accesses old new performs.lead
    ∙ ap (λ all. content_after (content old) all) performs.all_writes

-- a write leaves the item at any other place
slice_get-set_other : {X : Type 0} (xs : List X) (i k : ℕ) (x : X) → k ≢ i → slice_get (set xs i x) k ≡ slice_get xs k
slice_get-set_other [] i k x other = refl
slice_get-set_other (y ∷ ys) zero zero x other = absurd (other refl)
slice_get-set_other (y ∷ ys) zero (suc k) x other = refl
slice_get-set_other (y ∷ ys) (suc i) zero x other = refl
slice_get-set_other (y ∷ ys) (suc i) (suc k) x other = slice_get-set_other ys i k x (λ e. other (ap suc e))

-- the item at a written place is the written one
slice_get-set_same : {X : Type 0} (xs : List X) (i : ℕ) (x y : X) → slice_get (set xs i x) i ≡ Some y → y ≡ x
slice_get-set_same [] i x y at = absurd (none-some y at)
slice_get-set_same (z ∷ zs) zero x y at = sym (same_Some x y at)
slice_get-set_same (z ∷ zs) (suc i) x y at = slice_get-set_same zs i x y at

-- a write touches its cell, so the words of the untouched cells are as they were
pub covers-write : (image : List ℕ) (write : Write) (store : Content) → Covers image store → Covers image (content_after store (write ∷ []))
covers-write image write store covers k untouched =
    elim (cases_eq k write.cell) [
      | inl same ↦
          let touched : false ≡ true = slice_get-set_same store.touched write.cell true false (subst (λ (n : ℕ). slice_get (set store.touched write.cell true) n ≡ Some false) same untouched) in
          cc
      | inr other ↦
          covers k (sym (slice_get-set_other store.touched write.cell k true other) ∙ untouched)
          ∙ sym (slice_get-set_other store.live write.cell k write.word other)
    ]

-- the same after any writes
pub covers-writes : (image : List ℕ) (store : Content) (writes : List Write) → Covers image store → Covers image (content_after store writes)
covers-writes image store [] covers = covers
covers-writes image store (write ∷ writes) covers = covers-writes image (content_after store (write ∷ [])) writes (covers-write image write store covers)

-- after a place without an entry, a list has no entry
pub none_behind : {X : Type 0} (entries : List X) (place : ℕ) → None ≡ slice_get entries place → drop place entries ≡ []
none_behind entries place is = elim (slice_get_cases entries place).1 [
  | inl (x, below, some, at) ↦ absurd (none-some x (is ∙ some))
  | inr (past, none) ↦ drop_all place entries past
]

-- a take if none is left
pub takes_none : (store : Content) → store.left ≡ [] → Takes store None store
takes_none store end = record {
  gives = sym (ap (λ list. option_map taken_of (slice_get list 0)) end);
  rest = ap (λ left. record store { left = left }) (end ∙ sym (ap (λ list. drop 1 list) end));
}
