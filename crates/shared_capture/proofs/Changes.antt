-- The list of the mark words that differ from those which are to take their place.
use Rattle.std.proofs.Common.{◌≡◌, ◌≢◌, ℕ, ◌+◌, ◌<◌, ◌≤◌, List, [], ◌∷◌, ◌++◌, false, length, get_or, set, sym, refl, ap, ◌∙◌, subst, arith, length-append, get_or-set_other, get_or-set_same}
use Rattle.std.proofs.lemmas.List.{get_or_append_left, get_or_push}
use Rattle.std.proofs.lemmas.List.Folds.{list_any_none}
use Rattle.std.proofs.lemmas.List.Elements.{All-from_get_or}
use Rattle.std.proofs.lemmas.Grind.{get_or_default_zero}
use Rattle.std.proofs.lemmas.Map.Keys.{IsDistinct-from_apart}
use Rattle.std.proofs.lemmas.Map.Steps.{length-le_from_distinct_below}
use Rattle.std.proofs.lemmas.Bool.{false≢true, ne_eqb}
use Rattle.std.proofs.Math.Dec.{eqb}
use mathlib.Core.Logic.{dite}
use native.Mathlib.Decide.{ℕ_discrete, dec_lt}
use Rattle.shared_capture.specs.Seats.{ListsChanges}

-- if nothing differs, nothing is listed
pub lists_none : (marks away : List ℕ) → ((k : ℕ) → k < length marks → get_or marks k 0 ≡ get_or away k 0) → ListsChanges marks away []
lists_none marks away same = record {
  differ = λ i l. absurd (omega (arith, l));
  once = λ i j l m e. absurd (omega (arith, l));
  all = λ k l ne. absurd (ne (same k l));
}

-- no more are listed than there are
pub lists_few : (marks away places : List ℕ) → ListsChanges marks away places → length places ≤ length marks
lists_few marks away places ok =
    let zero_read = get_or_default_zero places in
    length-le_from_distinct_below places (length marks)
    (IsDistinct-from_apart eqb places (λ i j d a b. ne_eqb (get_or places i d) (get_or places j d)
    (λ e. omega (arith, a, ok.once i j (omega (arith, a, b)) b (sym (zero_read i d (omega (arith, a, b))) ∙ (e ∙ zero_read j d b))))))
    (λ q h. dite (dec_lt q (length marks)) (λ l. l)
    (λ far. absurd (false≢true (sym (list_any_none (eqb q) places (All-from_get_or (λ (z : ℕ). eqb q z ≡ false) places 0
    (λ i l. ne_eqb q (get_or places i 0) (λ e. far (subst (λ (z : ℕ). z < length marks) (sym e) ((ok.differ i l).0)))))) ∙ h))))

module _ (marks away places : List ℕ) (ok : ListsChanges marks away places) where
  module _ (k w : ℕ) (inside : k < length marks) (long : length away ≡ length marks) (ne : get_or marks k 0 ≢ w) where
    -- a word that differed still does
    pub lists_again : get_or marks k 0 ≢ get_or away k 0 → ListsChanges marks (set away k w) places
    lists_again before = record {
      differ = λ i l. (
        (ok.differ i l).0,
        dite (ℕ_discrete (get_or places i 0) k)
            (λ h e. ne (ap (λ (z : ℕ). get_or marks z 0) (sym h) ∙ (e ∙ (ap (λ (z : ℕ). get_or (set away k w) z 0) h ∙ get_or-set_same away k w 0 (omega (arith, long, inside))))))
            (λ h e. (ok.differ i l).1 (e ∙ get_or-set_other away k (get_or places i 0) w 0 h)),
      );
      once = ok.once;
      all = λ j l d. dite (ℕ_discrete j k)
          (λ h. ok.all j l (subst (λ (z : ℕ). get_or marks z 0 ≢ get_or away z 0) (sym h) before))
          (λ h. ok.all j l (λ e. d (e ∙ sym (get_or-set_other away k j w 0 h))));
    }

    -- one that didn't comes last
    module _ (before : get_or marks k 0 ≡ get_or away k 0) where
      abbrev new : List ℕ
      new = places ++ k ∷ []

      long_new : length new ≡ length places + 1
      long_new = length-append places (k ∷ [])

      early : (i : ℕ) → i < length places → get_or new i 0 ≡ get_or places i 0
      early i l = get_or_append_left places (k ∷ []) 0 i l

      last : (i : ℕ) → i < length new → (i < length places → ⊥) → (i ≡ length places) × (get_or new i 0 ≡ k)
      last i l far = let at : i ≡ length places = omega (arith, l, long_new, far) in (at, get_or_push places k 0 i (sym at))

      other : (i : ℕ) → i < length places → get_or places i 0 ≢ k
      other i l e = (ok.differ i l).1 (ap (λ (z : ℕ). get_or marks z 0) e ∙ (before ∙ ap (λ (z : ℕ). get_or away z 0) (sym e)))

      pub lists_more : ListsChanges marks (set away k w) (places ++ k ∷ [])
      lists_more = record {
        differ = λ i l. dite (dec_lt i (length places))
            (λ m. subst (λ (z : ℕ). (z < length marks) × (get_or marks z 0 ≢ get_or (set away k w) z 0)) (sym (early i m))
            ((ok.differ i m).0, λ e. (ok.differ i m).1 (e ∙ get_or-set_other away k (get_or places i 0) w 0 (other i m))))
            (λ far. subst (λ (z : ℕ). (z < length marks) × (get_or marks z 0 ≢ get_or (set away k w) z 0)) (sym ((last i l far).1))
            (inside, λ e. ne (e ∙ get_or-set_same away k w 0 (omega (arith, long, inside)))));
        once = λ i j l m e. dite (dec_lt i (length places))
            (λ p. dite (dec_lt j (length places))
            (λ q. ok.once i j p q (sym (early i p) ∙ (e ∙ early j q)))
            (λ q. absurd (other i p (sym (early i p) ∙ (e ∙ (last j m q).1)))))
            (λ p. dite (dec_lt j (length places))
            (λ q. absurd (other j q (sym (early j q) ∙ (sym e ∙ (last i l p).1))))
            (λ q. (last i l p).0 ∙ sym ((last j m q).0)));
        all = λ j l d. dite (ℕ_discrete j k)
            (λ h. (length places, omega (arith, long_new), get_or_push places k 0 (length places) refl ∙ sym h))
            (λ h. let at = ok.all j l (λ e. d (e ∙ sym (get_or-set_other away k j w 0 h))) in
            (at.0, omega (arith, at.1, long_new), early at.0 at.1 ∙ at.2));
      }

      -- the list has room for one more place
      pub lists_room : length places < length marks
      lists_room = omega (arith, long_new, lists_few marks (set away k w) new lists_more)
