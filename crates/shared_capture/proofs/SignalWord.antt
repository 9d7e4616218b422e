-- Each step at the word of open images, as its table asks for it.
use Rattle.std.proofs.Common.{◌≡◌, ◌≢◌, ℕ, ◌⊎◌, zero, suc, List, [], ◌∷◌, ◌++◌, length, get_or, set, Some, sym, refl, ap, ◌∙◌, subst, ⊎_elim, inl, inr}
use Rattle.std.specs.List.{slice_get}
use mathlib.Core.Option as maybe
use lib.ListN.{get_elem?}
use Rattle.atomic_table.specs.Table.{State, opening, step, keeps, Allows, Splits, Joins}
use Rattle.atomic_table.proofs.Lists.{set_else}
use Rattle.shared_capture.specs.declared.signal.SignalView.{SignalView}
use Rattle.shared_capture.specs.declared.signal.SignalView.TheVariants.{Spent, Out, In, Both}
use Rattle.shared_capture.specs.SignalWord.{last_of, AreStored, Knows, Kept, Sitting, stored_of, loaded_of, stored_next, loaded_next, met, out_part, in_part, paired}
use Rattle.shared_capture.proofs.Places.{at_end, at_longer}
use Rattle.shared_capture.proofs.Views.{set_knows, split_knows, join_knows}

-- ---- lists

last_more : (ticks : List ℕ) (tick : ℕ) → last_of (ticks ++ tick ∷ []) ≡ tick
last_more [] tick = refl
last_more (first ∷ []) tick = refl
last_more (first ∷ second ∷ ticks) tick = last_more (second ∷ ticks) tick

pub at_last : (ticks : List ℕ) (next i tick : ℕ) → slice_get (ticks ++ next ∷ []) i ≡ Some tick → (slice_get ticks i ≡ Some tick) ⊎ (tick ≡ next)
at_last ticks next i tick e = ⊎_elim inl (λ t. inr (sym t.1)) (at_end ticks next tick i e)

last_is_one : (ticks : List ℕ) → (last_of ticks ≡ 0) ⊎ ((j : ℕ) × (slice_get ticks j ≡ Some (last_of ticks)))
last_is_one [] = inl refl
last_is_one (tick ∷ []) = inr (0, refl)
last_is_one (tick ∷ next ∷ ticks) = ⊎_elim inl (λ t. inr (suc t.0, t.1)) (last_is_one (next ∷ ticks))

-- one more tick may be stored
stored_more : (stored loaded : List ℕ) (tick : ℕ) → AreStored stored loaded → AreStored (stored ++ tick ∷ []) loaded
stored_more stored loaded tick are i each e = ⊎_elim inl (λ t. inr (t.0, at_longer stored (tick ∷ []) t.0 each t.1)) (are i each e)

-- the last stored tick may be loaded
loaded_more : (stored loaded : List ℕ) → AreStored stored loaded → AreStored stored (loaded ++ last_of stored ∷ [])
loaded_more stored loaded are i tick e = ⊎_elim (are i tick)
    (λ same. subst (λ n. (n ≡ 0) ⊎ ((j : ℕ) × (slice_get stored j ≡ Some n))) (sym same) (last_is_one stored))
    (at_last loaded (last_of stored) i tick e)

-- ---- the seats

others_out : (a b : List ℕ) (p r : ℕ) (loaded : List ℕ) (q j : ℕ) (v : SignalView) → j ≢ p → Knows a p loaded q j v → Knows b r loaded q j v
others_out a b p r loaded q j Spent ne k = tt
others_out a b p r loaded q j (Out ticks) ne k = absurd (ne k.0)
others_out a b p r loaded q j (In ticks) ne k = k
others_out a b p r loaded q j (Both stored ticks) ne k = absurd (ne k.0)

others_in : (stored : List ℕ) (p : ℕ) (a b : List ℕ) (q r j : ℕ) (v : SignalView) → j ≢ q → Knows stored p a q j v → Knows stored p b r j v
others_in stored p a b q r j Spent ne k = tt
others_in stored p a b q r j (Out ticks) ne k = k
others_in stored p a b q r j (In ticks) ne k = absurd (ne k.0)
others_in stored p a b q r j (Both first second) ne k = absurd (ne k.1)

others_spent : (stored loaded : List ℕ) (p o q r j : ℕ) (v : SignalView) → j ≢ p → j ≢ q → Knows stored p loaded q j v → Knows stored o loaded r j v
others_spent stored loaded p o q r j Spent np nq k = tt
others_spent stored loaded p o q r j (Out ticks) np nq k = absurd (np k.0)
others_spent stored loaded p o q r j (In ticks) np nq k = absurd (nq k.0)
others_spent stored loaded p o q r j (Both first second) np nq k = absurd (np k.0)

-- the stored and the loaded ticks stay, with these two seats
kept_at : {s t : State (Unit {0}) SignalView} (k : Kept s) (p q : ℕ) → t.words ≡ last_of k.stored ∷ []
    → ((j : ℕ) (v : SignalView) → get_elem? t.views j ≡ maybe.some v → Knows k.stored p k.loaded q j v) → Kept t
kept_at k p q word each = record { stored = k.stored; out_at = p; loaded = k.loaded; in_at = q; word = word; are_stored = k.are_stored; each_seat = each }

-- ---- the steps

found_is : (s : State (Unit {0}) SignalView) (k : Kept s) → get_or s.words 0 0 ≡ last_of k.stored
found_is s k = ap (λ ws. get_or ws 0 0) k.word

-- a load leaves the word
still : (s : State (Unit {0}) SignalView) (k : Kept s) → set s.words 0 (get_or s.words 0 0) ≡ last_of k.stored ∷ []
still s k = ap (λ ws. set ws 0 (get_or ws 0 0)) k.word

pub publishes : (slots id : ℕ) (me : Sitting) (stored : List ℕ) (tick : ℕ) → me.0 ≡ Out stored → Allows Kept slots id me 0 (λ _. tick) (λ _. stored_next (step slots 0 tick 0 maybe.none) me tick)
publishes slots id me stored tick is s k wide at small =
    let known = subst (Knows k.stored k.out_at k.loaded k.in_at id) is (k.each_seat id me.0 at) in
    let after : List ℕ = stored ++ tick ∷ [] in (
      Out after,
      keeps,
      tt,
      record {
        stored = after;
        out_at = k.out_at;
        loaded = k.loaded;
        in_at = k.in_at;
        word = ap (λ ws. set ws 0 tick) k.word ∙ ap (λ n. n ∷ []) (sym (last_more stored tick));
        are_stored = stored_more stored k.loaded tick (subst (λ l. AreStored l k.loaded) (sym known.1) k.are_stored);
        each_seat = set_knows (Knows after k.out_at k.loaded k.in_at) s.views id (Out after) (known.0, refl)
            (λ j v ne e. others_out k.stored after k.out_at k.out_at k.loaded k.in_at j v (λ h. ne (h ∙ sym known.0)) (k.each_seat j v e));
      },
      ap (λ (v : SignalView). (Out (stored_of v ++ tick ∷ []), me.1)) (sym is),
    )

pub loads : (slots id : ℕ) (me : Sitting) (loaded : List ℕ) → me.0 ≡ In loaded → Allows Kept slots id me 0 (λ n. n) (loaded_next (step slots 0 0 0 maybe.none) me)
loads slots id me loaded is s k wide at small =
    let known = subst (Knows k.stored k.out_at k.loaded k.in_at id) is (k.each_seat id me.0 at) in
    let found = get_or s.words 0 0 in
    let after : List ℕ = loaded ++ found ∷ [] in (
      In after,
      keeps,
      tt,
      record {
        stored = k.stored;
        out_at = k.out_at;
        loaded = after;
        in_at = k.in_at;
        word = still s k;
        are_stored = subst (λ n. AreStored k.stored (loaded ++ n ∷ [])) (sym (found_is s k)) (loaded_more k.stored loaded (subst (AreStored k.stored) (sym known.1) k.are_stored));
        each_seat = set_knows (Knows k.stored k.out_at after k.in_at) s.views id (In after) (known.0, refl)
            (λ j v ne e. others_in k.stored k.out_at k.loaded after k.in_at k.in_at j v (λ h. ne (h ∙ sym known.0)) (k.each_seat j v e));
      },
      ap (λ (v : SignalView). (In (loaded_of v ++ found ∷ []), me.1)) (sym is),
    )

pub meets : (slots id : ℕ) (me : Sitting) (stored loaded : List ℕ) → me.0 ≡ Both stored loaded → Allows Kept slots id me 0 (λ n. n) (met (step slots 0 0 0 maybe.none) me)
meets slots id me stored loaded is s k wide at small =
    let known = subst (Knows k.stored k.out_at k.loaded k.in_at id) is (k.each_seat id me.0 at) in
    let are : AreStored stored loaded = subst (λ l. AreStored l loaded) (sym known.2) (subst (AreStored k.stored) (sym known.3) k.are_stored) in (
      me.0,
      keeps,
      tt,
      kept_at k k.out_at k.in_at (still s k) (set_knows (Knows k.stored k.out_at k.loaded k.in_at) s.views id me.0 (k.each_seat id me.0 at) (λ j v ne e. k.each_seat j v e)),
      (refl, subst (λ (v : SignalView). v ≡ Both (stored_of v) (loaded_of v)) (sym is) refl, subst (λ (v : SignalView). AreStored (stored_of v) (loaded_of v)) (sym is) are),
    )

-- ---- splits and joins

parts : (id : ℕ) (stored loaded : List ℕ) → Splits Kept id (Both stored loaded) (Out stored) (In loaded)
parts id stored loaded s k at =
    let known = k.each_seat id (Both stored loaded) at in
    let q : ℕ = length (set s.views id (Out stored)) in
    kept_at k k.out_at q k.word (split_knows (Knows k.stored k.out_at k.loaded q) s.views id (Out stored) (In loaded) (known.0, known.2) (refl, known.3)
    (λ j v ne e. others_spent k.stored k.loaded k.out_at k.out_at k.in_at q j v (λ h. ne (h ∙ sym known.0)) (λ h. ne (h ∙ sym known.1)) (k.each_seat j v e)))

moves : (id : ℕ) (loaded : List ℕ) → Splits Kept id (In loaded) Spent (In loaded)
moves id loaded s k at =
    let known = k.each_seat id (In loaded) at in
    let q : ℕ = length (set s.views id Spent) in
    kept_at k k.out_at q k.word (split_knows (Knows k.stored k.out_at k.loaded q) s.views id Spent (In loaded) tt (refl, known.1)
    (λ j v ne e. others_in k.stored k.out_at k.loaded k.loaded k.in_at q j v (λ h. ne (h ∙ sym known.0)) (k.each_seat j v e)))

joins : (id : ℕ) (stored : List ℕ) (there : ℕ) (loaded : List ℕ) → Joins Kept id (Out stored) there (In loaded) (Both stored loaded) Spent
joins id stored there loaded s k at apart beside =
    let known = k.each_seat id (Out stored) at in
    let seen = k.each_seat there (In loaded) (sym (set_else s.views id there (Both stored loaded) apart) ∙ beside) in
    kept_at k id id k.word (join_knows (Knows k.stored id k.loaded id) s.views id (Both stored loaded) there Spent (refl, refl, known.1, seen.1) tt
    (λ j v near far e. others_spent k.stored k.loaded k.out_at id k.in_at id j v (λ h. near (h ∙ sym known.0)) (λ h. far (h ∙ sym seen.0)) (k.each_seat j v e)))

pub parts_of : (id : ℕ) (v : SignalView) (stored loaded : List ℕ) → v ≡ Both stored loaded → Splits Kept id v (out_part v) (in_part v)
parts_of id v stored loaded is = subst (λ (z : SignalView). Splits Kept id z (out_part z) (in_part z)) (sym is) (parts id stored loaded)

pub moves_of : (id : ℕ) (v : SignalView) (loaded : List ℕ) → v ≡ In loaded → Splits Kept id v Spent v
moves_of id v loaded is = subst (λ (z : SignalView). Splits Kept id z Spent z) (sym is) (moves id loaded)

pub joins_of : (id : ℕ) (v : SignalView) (there : ℕ) (w : SignalView) (stored loaded : List ℕ) → v ≡ Out stored → w ≡ In loaded → Joins Kept id v there w (paired v w) Spent
joins_of id v there w stored loaded is is' = subst (λ (z : SignalView × SignalView). Joins Kept id z.0 there z.1 (paired z.0 z.1) Spent) (λ i. (sym is i, sym is' i)) (joins id stored there loaded)

-- ---- the start

first_seat : (j : ℕ) (v : SignalView) → get_elem? (Both [] [] ∷ []) j ≡ maybe.some v → Knows [] 0 [] 0 j v
first_seat zero v e = subst (Knows [] 0 [] 0 0) (maybe.some-injective (Both [] []) v e) (refl, refl, refl, refl)
first_seat (suc j) v e = absurd (maybe.some-ne-none v (sym e))

pub begins : Kept (opening (0 ∷ []) [] (Both [] []))
begins = record { stored = []; out_at = 0; loaded = []; in_at = 0; word = refl; are_stored = λ i tick e. absurd cc; each_seat = first_seat }
