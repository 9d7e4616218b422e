-- Each step of the two ends keeps the order of the items.
use Rattle.std.proofs.Common.{◌≡◌, ℕ, zero, suc, List, [], ◌∷◌, ◌++◌, length, set, sym, refl, ap, ◌∙◌, subst}
use mathlib.Core.Option.{some, some-injective, some-ne-none}
use Rattle.std.proofs.lemmas.List.{append_assoc}
use lib.ListN.{get_elem?}
use Rattle.atomic_table.proofs.Lists.{set_else}
use Rattle.crossbeam_channel.specs.Fifo.{Pushes, Pops, Forks, Merges, Learns}
use Rattle.shared_capture.proofs.Views.{set_knows, split_knows, join_knows}
use Rattle.workers.specs.declared.item.Item.{Item}
use Rattle.workers.specs.declared.item.Item.TheVariants.{Start}
use Rattle.workers.specs.declared.item.View.{View}
use Rattle.workers.specs.declared.item.View.TheVariants as V
use Rattle.workers.specs.Items.{AreNumbered}
use Rattle.workers.proofs.Numbers.{prefix_numbered}
use Rattle.workers.specs.Order.{Knows, IsInOrder, pushed_of, popped_of, pushed, popped, reports_all, pushing_part, popping_part, whole}

-- the knowledge of a seat that is neither end
others : (a b : List Item) (p o : ℕ) (t s : List Item) (q r j : ℕ) (v : View) → (j ≡ p → a ≡ b) → (j ≡ p → p ≡ o) → (j ≡ q → t ≡ s) → (j ≡ q → q ≡ r) → Knows a p t q j v → Knows b o s r j v
others a b p o t s q r j V.Spent x y z w k = tt
others a b p o t s q r j (V.Pushes xs) x y z w k = (k.0 ∙ y k.0, k.1 ∙ x k.0)
others a b p o t s q r j (V.Pops ys) x y z w k = (k.0 ∙ w k.0, k.1 ∙ z k.0)
others a b p o t s q r j (V.Both xs ys) x y z w k = (k.0 ∙ y k.0, k.1 ∙ w k.1, k.2 ∙ x k.0, k.3 ∙ z k.1)

-- the order stays, with these two seats
kept_at : {items : List Item} {views later : List View} (k : IsInOrder items views) (p q : ℕ) → ((j : ℕ) (v : View) → get_elem? later j ≡ some v → Knows k.all p k.taken q j v) → IsInOrder items later
kept_at k p q each = record { all = k.all; pushed_at = p; taken = k.taken; popped_at = q; order = k.order; numbered = k.numbered; each_seat = each }

start_knows : (j : ℕ) (v : View) → get_elem? (V.Both [] [] ∷ []) j ≡ some v → Knows [] 0 [] 0 j v
start_knows zero v e = subst (Knows [] 0 [] 0 0) (some-injective (V.Both [] []) v e) (refl, refl, refl, refl)
start_knows (suc j) v e = absurd (some-ne-none v (sym e))

pub starts : IsInOrder [] (V.Both [] [] ∷ [])
starts = record {
  all = [];
  pushed_at = 0;
  taken = [];
  popped_at = 0;
  order = refl;
  numbered = tt;
  each_seat = start_knows;
}

-- the seat id knew v, and the others know what they knew
module _ (items : List Item) (views : List View) (k : IsInOrder items views) (id : ℕ) (v : View) (at : get_elem? views id ≡ some v) where
  pub pushes_one : (x : Item) → v ≡ V.Pushes (pushed_of v) → AreNumbered (pushed_of v ++ x ∷ []) → IsInOrder (items ++ x ∷ []) (set views id (V.Pushes (pushed_of v ++ x ∷ [])))
  pushes_one x is numbered = let known = subst (Knows k.all k.pushed_at k.taken k.popped_at id) is (k.each_seat id v at) in let all : List Item = k.all ++ x ∷ [] in
      let same : pushed_of v ++ x ∷ [] ≡ all = ap (λ (l : List Item). l ++ x ∷ []) known.1 in record {
        all = all;
        pushed_at = k.pushed_at;
        taken = k.taken;
        popped_at = k.popped_at;
        order = sym (append_assoc k.taken items (x ∷ [])) ∙ ap (λ (l : List Item). l ++ x ∷ []) k.order;
        numbered = subst AreNumbered same numbered;
        each_seat = set_knows (Knows all k.pushed_at k.taken k.popped_at) views id (V.Pushes (pushed_of v ++ x ∷ [])) (known.0, same)
            (λ j u ne e. others k.all all k.pushed_at k.pushed_at k.taken k.taken k.popped_at k.popped_at j u
            (λ h. absurd (ne (h ∙ sym known.0))) (λ _. refl) (λ _. refl) (λ _. refl) (k.each_seat j u e));
      }

module _ (x : Item) (items : List Item) (views : List View) (k : IsInOrder (x ∷ items) views) (id : ℕ) (v : View) (at : get_elem? views id ≡ some v) where
  pub pops_one : v ≡ V.Pops (popped_of v) → IsInOrder items (set views id (V.Pops (popped_of v ++ x ∷ []))) × AreNumbered (popped_of v ++ x ∷ [])
  pops_one is = let known = subst (Knows k.all k.pushed_at k.taken k.popped_at id) is (k.each_seat id v at) in let taken : List Item = k.taken ++ x ∷ [] in
      let same : popped_of v ++ x ∷ [] ≡ taken = ap (λ (l : List Item). l ++ x ∷ []) known.1 in
      let order : taken ++ items ≡ k.all = append_assoc k.taken (x ∷ []) (items) ∙ k.order in (
        record {
          all = k.all;
          pushed_at = k.pushed_at;
          taken = taken;
          popped_at = k.popped_at;
          order = order;
          numbered = k.numbered;
          each_seat = set_knows (Knows k.all k.pushed_at taken k.popped_at) views id (V.Pops (popped_of v ++ x ∷ [])) (known.0, same)
              (λ j u ne e. others k.all k.all k.pushed_at k.pushed_at k.taken taken k.popped_at k.popped_at j u (λ _. refl)
              (λ _. refl) (λ h. absurd (ne (h ∙ sym known.0))) (λ _. refl) (k.each_seat j u e));
        },
        subst AreNumbered (sym same) (prefix_numbered taken (items) k.all order k.numbered),
      )

pub pushes : (n id : ℕ) (v : View) (x : Item) → v ≡ V.Pushes (pushed_of v) → AreNumbered (pushed_of v ++ x ∷ []) → Pushes IsInOrder n id v x (pushed v x)
pushes n id v x is numbered items views room k at = (V.Pushes (pushed_of v ++ x ∷ []), pushes_one items views k id v at x is numbered, refl)

pub pops : (id : ℕ) (v : View) → v ≡ V.Pops (popped_of v) → Pops IsInOrder id v (popped v)
pops id v is x items views k at = let o = pops_one x items views k id v at is in (V.Pops (popped_of v ++ x ∷ []), o.0, (refl, o.1))

forks_both : (id : ℕ) (xs ys : List Item) → Forks IsInOrder id (V.Both xs ys) (V.Pushes xs) (V.Pops ys)
forks_both id xs ys items views k at = let known = k.each_seat id (V.Both xs ys) at in let q : ℕ = length (set views id (V.Pushes xs)) in
    kept_at k k.pushed_at q (split_knows (Knows k.all k.pushed_at k.taken q) views id (V.Pushes xs) (V.Pops ys) (known.0, known.2) (refl, known.3)
    (λ j v ne e. others k.all k.all k.pushed_at k.pushed_at k.taken k.taken k.popped_at q j v (λ _. refl) (λ _. refl) (λ _. refl) (λ h. absurd (ne (h ∙ sym known.1))) (k.each_seat j v e)))

pub forks : (id : ℕ) (v : View) → v ≡ V.Both (pushed_of v) (popped_of v) → Forks IsInOrder id v (pushing_part v) (popping_part v)
forks id v is = subst (λ (z : View). Forks IsInOrder id z (pushing_part z) (popping_part z)) (sym is) (forks_both id (pushed_of v) (popped_of v))

merges_both : (id : ℕ) (xs : List Item) (there : ℕ) (ys : List Item) → Merges IsInOrder id (V.Pushes xs) there (V.Pops ys) (V.Both xs ys) V.Spent
merges_both id xs there ys items views k at apart beside =
    let known = k.each_seat id (V.Pushes xs) at in
    let seen = k.each_seat there (V.Pops ys) (sym (set_else views id there (V.Both xs ys) apart) ∙ beside) in
    kept_at k id id (join_knows (Knows k.all id k.taken id) views id (V.Both xs ys) there V.Spent (refl, refl, known.1, seen.1) tt
    (λ j v near far e. others k.all k.all k.pushed_at id k.taken k.taken k.popped_at id j v (λ _. refl)
    (λ h. absurd (near (h ∙ sym known.0))) (λ _. refl) (λ h. absurd (far (h ∙ sym seen.0))) (k.each_seat j v e)))

pub merges : (id : ℕ) (v : View) (there : ℕ) (w : View) → v ≡ V.Pushes (pushed_of v) → w ≡ V.Pops (popped_of w) → Merges IsInOrder id v there w (whole v w) V.Spent
merges id v there w is is' = subst (λ (z : View × View). Merges IsInOrder id z.0 there z.1 (whole z.0 z.1) V.Spent) (λ i. (sym is i, sym is' i)) (merges_both id (pushed_of v) there (popped_of w))

pub learns : (id : ℕ) (v : View) (xs ys : List Item) → v ≡ V.Both xs ys → Learns IsInOrder id v (reports_all v)
learns id v xs ys is items views k at = let known = subst (Knows k.all k.pushed_at k.taken k.popped_at id) is (k.each_seat id v at) in
    subst (λ (z : View). reports_all z items) (sym is) (ap (λ (l : List Item). l ++ items) known.3 ∙ (k.order ∙ sym known.2))

pub learns_nothing : (id : ℕ) (v : View) → Learns IsInOrder id v (λ items. Unit {0})
learns_nothing id v items views k at = tt

moves_pops : (id : ℕ) (ys : List Item) → Forks IsInOrder id (V.Pops ys) V.Spent (V.Pops ys)
moves_pops id ys items views k at = let known = k.each_seat id (V.Pops ys) at in let q : ℕ = length (set views id V.Spent) in
    kept_at k k.pushed_at q (split_knows (Knows k.all k.pushed_at k.taken q) views id V.Spent (V.Pops ys) tt (refl, known.1)
    (λ j v ne e. others k.all k.all k.pushed_at k.pushed_at k.taken k.taken k.popped_at q j v (λ _. refl) (λ _. refl) (λ _. refl) (λ h. absurd (ne (h ∙ sym known.0))) (k.each_seat j v e)))

pub moves : (id : ℕ) (v : View) → v ≡ V.Pops (popped_of v) → Forks IsInOrder id v V.Spent v
moves id v is = subst (λ (z : View). Forks IsInOrder id z V.Spent z) (sym is) (moves_pops id (popped_of v))

pub begins : (n id : ℕ) (v : View) (number : ℕ) → v ≡ V.Pushes [] → Pushes IsInOrder n id v (Start number) (pushed v (Start number))
begins n id v number is items views room k at = let here : v ≡ V.Pushes (pushed_of v) = is ∙ ap (λ (u : View). V.Pushes (pushed_of u)) (sym is) in
    (V.Pushes (pushed_of v ++ Start number ∷ []), pushes_one items views k id v at (Start number) here (subst (λ (u : View). AreNumbered (pushed_of u ++ Start number ∷ [])) (sym is) tt), refl)
