-- The meaning of `==` on requests.
use Rattle.std.proofs.Common.{◌≡◌, true, ◌==◌, ◌&&◌, ℕ, List, [], ◌∷◌, refl, ap, ap₂, arith, eqb-true, subst}
use Rattle.std.proofs.lemmas.Bool.{and_parts}
use Rattle.std.proofs.lemmas.Bool.Decides.{Decides-int_eq, nat_tests}
use Rattle.std.proofs.lemmas.Grind.{common_steps}
use Rattle.std.specs.Ordering.{int_eq}
use lib.Pointwise.{pointwise}
use Rattle.world_actions.specs.declared.action.Action.{Action}
use Rattle.world_actions.specs.declared.action.Action.TheVariants.{Set, Add, Transfer, Swap, Cap}
use Rattle.world_actions.specs.contracts.action.ActionPartialEq.TheImpl as action
use Rattle.batches.specs.declared.batch.Request.{Request}
use Rattle.batches.specs.declared.batch.Request.TheVariants.{Act, Get, Bad}
use Rattle.batches.specs.contracts.batch.RequestPartialEq.TheImpl as request

same_action : (a b : Action) → action.ghosts.eq a b ≡ true → a ≡ b
same_action (Set x0 x1) (Set y0 y1) is = let p = and_parts (x0 == y0) (x1 == y1) is in ap₂ Set (eqb-true x0 y0 p.0) (eqb-true x1 y1 p.1)
same_action (Set x0 x1) (Add y0 y1) is = absurd (cc)
same_action (Set x0 x1) (Transfer y0 y1 y2) is = absurd (cc)
same_action (Set x0 x1) (Swap y0 y1) is = absurd (cc)
same_action (Set x0 x1) (Cap y0 y1) is = absurd (cc)
same_action (Add x0 x1) (Set y0 y1) is = absurd (cc)
same_action (Add x0 x1) (Add y0 y1) is = let p = and_parts (x0 == y0) (int_eq x1 y1) is in ap₂ Add (eqb-true x0 y0 p.0) ((Decides-int_eq x1 y1).0 p.1)
same_action (Add x0 x1) (Transfer y0 y1 y2) is = absurd (cc)
same_action (Add x0 x1) (Swap y0 y1) is = absurd (cc)
same_action (Add x0 x1) (Cap y0 y1) is = absurd (cc)
same_action (Transfer x0 x1 x2) (Set y0 y1) is = absurd (cc)
same_action (Transfer x0 x1 x2) (Add y0 y1) is = absurd (cc)
same_action (Transfer x0 x1 x2) (Transfer y0 y1 y2) is =
    let p = and_parts (x0 == y0) ((x1 == y1) && (x2 == y2)) is in
    let q = and_parts (x1 == y1) (x2 == y2) p.1 in
    λ i. Transfer (eqb-true x0 y0 p.0 i) (eqb-true x1 y1 q.0 i) (eqb-true x2 y2 q.1 i)
same_action (Transfer x0 x1 x2) (Swap y0 y1) is = absurd (cc)
same_action (Transfer x0 x1 x2) (Cap y0 y1) is = absurd (cc)
same_action (Swap x0 x1) (Set y0 y1) is = absurd (cc)
same_action (Swap x0 x1) (Add y0 y1) is = absurd (cc)
same_action (Swap x0 x1) (Transfer y0 y1 y2) is = absurd (cc)
same_action (Swap x0 x1) (Swap y0 y1) is = let p = and_parts (x0 == y0) (x1 == y1) is in ap₂ Swap (eqb-true x0 y0 p.0) (eqb-true x1 y1 p.1)
same_action (Swap x0 x1) (Cap y0 y1) is = absurd (cc)
same_action (Cap x0 x1) (Set y0 y1) is = absurd (cc)
same_action (Cap x0 x1) (Add y0 y1) is = absurd (cc)
same_action (Cap x0 x1) (Transfer y0 y1 y2) is = absurd (cc)
same_action (Cap x0 x1) (Swap y0 y1) is = absurd (cc)
same_action (Cap x0 x1) (Cap y0 y1) is = let p = and_parts (x0 == y0) (x1 == y1) is in ap₂ Cap (eqb-true x0 y0 p.0) (eqb-true x1 y1 p.1)

same_request : (a b : Request) → request.ghosts.eq a b ≡ true → a ≡ b
same_request (Act x) (Act y) is = ap Act (same_action x y is)
same_request (Act x) (Get n) is = absurd (cc)
same_request (Act x) Bad is = absurd (cc)
same_request (Get m) (Act y) is = absurd (cc)
same_request (Get m) (Get n) is = ap Get (eqb-true m n is)
same_request (Get m) Bad is = absurd (cc)
same_request Bad (Act y) is = absurd (cc)
same_request Bad (Get n) is = absurd (cc)
same_request Bad Bad is = refl

pub same_requests : (xs ys : List Request) → pointwise request.ghosts.eq xs ys ≡ true → xs ≡ ys
same_requests [] [] is = refl
same_requests [] (y ∷ ys) is = absurd (cc)
same_requests (x ∷ xs) [] is = absurd (cc)
same_requests (x ∷ xs) (y ∷ ys) is =
    let parts = and_parts (request.ghosts.eq x y) (pointwise request.ghosts.eq xs ys) is in
    ap₂ ◌∷◌ (same_request x y parts.0) (same_requests xs ys parts.1)

number_is_itself : (x : ℕ) → (x == x) ≡ true
number_is_itself x = grind (arith, nat_tests, common_steps)

action_is_itself : (a : Action) → action.ghosts.eq a a ≡ true
action_is_itself (Set x0 x1) = ap₂ ◌&&◌ (number_is_itself x0) (number_is_itself x1)
action_is_itself (Add x0 x1) = ap₂ ◌&&◌ (number_is_itself x0) ((Decides-int_eq x1 x1).1 refl)
action_is_itself (Transfer x0 x1 x2) = ap₂ ◌&&◌ (number_is_itself x0) (ap₂ ◌&&◌ (number_is_itself x1) (number_is_itself x2))
action_is_itself (Swap x0 x1) = ap₂ ◌&&◌ (number_is_itself x0) (number_is_itself x1)
action_is_itself (Cap x0 x1) = ap₂ ◌&&◌ (number_is_itself x0) (number_is_itself x1)

request_is_itself : (a : Request) → request.ghosts.eq a a ≡ true
request_is_itself (Act x) = action_is_itself x
request_is_itself (Get m) = number_is_itself m
request_is_itself Bad = refl

requests_are_themselves : (xs : List Request) → pointwise request.ghosts.eq xs xs ≡ true
requests_are_themselves [] = refl
requests_are_themselves (x ∷ xs) = ap₂ ◌&&◌ (request_is_itself x) (requests_are_themselves xs)

pub equal_requests : (xs ys : List Request) → xs ≡ ys → pointwise request.ghosts.eq xs ys ≡ true
equal_requests xs ys are = subst (λ (zs : List Request). pointwise request.ghosts.eq xs zs ≡ true) are (requests_are_themselves xs)
