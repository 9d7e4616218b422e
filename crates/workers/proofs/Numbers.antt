-- Numbered items.
use Rattle.std.proofs.Common.{arith, inl, inr, ◌⊎◌, max, ◌≤◌, ◌≡◌, ℕ, List, [], ◌∷◌, ◌++◌, refl, sym, ap, ◌∙◌, subst}
use Rattle.std.proofs.Math.Nat.{max-eq_left, max-eq_right}
use Rattle.std.proofs.lemmas.Bool.{cases_lt}
use Rattle.action_log.specs.Queue.{QueueEnd}
use Rattle.workers.specs.declared.item.Item.{Item}
use Rattle.workers.specs.declared.item.Item.TheVariants.{Start, Tick, Switch, Stop}
use Rattle.workers.specs.declared.item.View.{View}
use Rattle.workers.specs.declared.item.View.TheVariants.{Pushes, Pops}
use Rattle.workers.specs.Order.{pushed_of, popped_of}
use Rattle.workers.specs.Channel.{IsBegun}
use Rattle.workers.specs.Items.{Goes, end_after, GoAll, end_all, items_end, AreNumbered}

-- the greater of two numbers is one of them
pub max_is_one : (m n : ℕ) → (max m n ≡ m) ⊎ (max m n ≡ n)
max_is_one m n = elim (cases_lt m n) [ inl less ↦ inr (max-eq_right (let below : m ≤ n = omega (arith, less) in below)) | inr above ↦ inl (max-eq_left above) ]

pub go_prefix : (end : QueueEnd) (xs ys : List Item) → GoAll end (xs ++ ys) → GoAll end xs
go_prefix end [] ys go = tt
go_prefix end (x ∷ xs) ys go = (go.0, go_prefix (end_after end x) xs ys go.1)

pub go_snoc : (end : QueueEnd) (xs : List Item) (x : Item) → GoAll end xs → Goes (end_all end xs) x → GoAll end (xs ++ x ∷ [])
go_snoc end [] x go goes = (goes, tt)
go_snoc end (y ∷ xs) x go goes = (go.0, go_snoc (end_after end y) xs x go.1 goes)

pub end_snoc : (end : QueueEnd) (xs : List Item) (x : Item) → end_all end (xs ++ x ∷ []) ≡ end_after (end_all end xs) x
end_snoc end [] x = refl
end_snoc end (y ∷ xs) x = end_snoc (end_after end y) xs x

pub prefix_numbered : (xs ys all : List Item) → xs ++ ys ≡ all → AreNumbered all → AreNumbered xs
prefix_numbered [] ys all is numbered = tt
prefix_numbered (Start n ∷ xs) ys all is numbered = go_prefix (record { base = n; count = 0 }) xs ys (subst AreNumbered (sym is) numbered)
prefix_numbered (Tick t ∷ xs) ys all is numbered = subst AreNumbered (sym is) numbered
prefix_numbered (Switch n ∷ xs) ys all is numbered = subst AreNumbered (sym is) numbered
prefix_numbered (Stop ∷ xs) ys all is numbered = subst AreNumbered (sym is) numbered

-- one more item, after a start
pub numbered_more : (items : List Item) (x : Item) → IsBegun items → AreNumbered items → Goes (items_end items) x → AreNumbered (items ++ x ∷ [])
numbered_more items x begun numbered goes =
    let number = begun.0 in
    let rest = begun.1 in
    let is = begun.2 in
    let known : GoAll (record { base = number; count = 0 }) rest = subst AreNumbered is numbered in
    let here : Goes (end_all (record { base = number; count = 0 }) rest) x = subst (λ (l : List Item). Goes (items_end l) x) is goes in
    subst (λ (l : List Item). AreNumbered (l ++ x ∷ [])) (sym is) (go_snoc (record { base = number; count = 0 }) rest x known here)

pub begun_more : (items : List Item) (x : Item) → IsBegun items → IsBegun (items ++ x ∷ [])
begun_more items x begun = (begun.0, begun.1 ++ x ∷ [], ap (λ (l : List Item). l ++ x ∷ []) begun.2)

pub begun_popped : (v w : View) (x : Item) → w ≡ Pops (popped_of v ++ x ∷ []) → IsBegun (popped_of v) → IsBegun (popped_of w)
begun_popped v w x is begun = subst (λ (u : View). IsBegun (popped_of u)) (sym is) (begun_more (popped_of v) x begun)

pub begun_pushed : (v w : View) (x : Item) → w ≡ Pushes (pushed_of v ++ x ∷ []) → IsBegun (pushed_of v) → IsBegun (pushed_of w)
begun_pushed v w x is begun = subst (λ (u : View). IsBegun (pushed_of u)) (sym is) (begun_more (pushed_of v) x begun)

go_last : (end : QueueEnd) (xs : List Item) (x : Item) → GoAll end (xs ++ x ∷ []) → Goes (end_all end xs) x
go_last end [] x go = go.0
go_last end (y ∷ xs) x go = go_last (end_after end y) xs x go.1

pub last_goes : (items : List Item) (x : Item) → IsBegun items → AreNumbered (items ++ x ∷ []) → Goes (items_end items) x
last_goes items x begun numbered = subst (λ (l : List Item). Goes (items_end l) x) (sym begun.2)
    (go_last (record { base = begun.0; count = 0 }) begun.1 x (subst (λ (l : List Item). AreNumbered (l ++ x ∷ [])) begun.2 numbered))

pub numbered_popped : (v w : View) (x : Item) → w ≡ Pops (popped_of v ++ x ∷ []) → AreNumbered (popped_of v ++ x ∷ []) → AreNumbered (popped_of w)
numbered_popped v w x is numbered = subst (λ (u : View). AreNumbered (popped_of u)) (sym is) numbered

pub numbered_pushed : (v w : View) (x : Item) → w ≡ Pushes (pushed_of v ++ x ∷ []) → IsBegun (pushed_of v) → AreNumbered (pushed_of v) → Goes (items_end (pushed_of v)) x → AreNumbered (pushed_of w)
numbered_pushed v w x is begun numbered goes = subst (λ (u : View). AreNumbered (pushed_of u)) (sym is) (numbered_more (pushed_of v) x begun numbered goes)

-- an end after a receive
pub received : (v w : View) (x : Item) → w ≡ Pops (popped_of v ++ x ∷ []) → w ≡ Pops (popped_of w)
received v w x is = is ∙ ap (λ (u : View). Pops (popped_of u)) (sym is)

pub sent : (v w : View) (x : Item) → w ≡ Pushes (pushed_of v ++ x ∷ []) → w ≡ Pushes (pushed_of w)
sent v w x is = is ∙ ap (λ (u : View). Pushes (pushed_of u)) (sym is)

pub end_more : (items : List Item) (x : Item) → items_end (items ++ x ∷ []) ≡ end_after (items_end items) x
end_more items x = end_snoc (record { base = 0; count = 0 }) items x
