-- The waiting answers are of consecutive ticks.
use Rattle.std.proofs.Common.{arith, ◌≡◌, ℕ, ◌+◌, ◌<◌, ◌≤◌, List, [], ◌∷◌, ◌++◌, length, length-append, refl, sym, ap, ◌∙◌, subst, All, Some, slice_get}
use Rattle.std.proofs.lemmas.List.{append_assoc}
use Rattle.std.proofs.lemmas.List.Elements.{All-nil, All-push, All-cons}
use Rattle.workers.specs.Posts.{Unposted}
use Rattle.workers.specs.Answering.{Answering, AreNext, AreLater, Posts}

pub next_more : (number : ℕ) (waiting : List Unposted) (last : Unposted) → AreNext number waiting → last.number ≡ number + length waiting + 1 → AreNext number (waiting ++ last ∷ [])
next_more number [] last next is = (omega (arith, is), tt)
next_more number (first ∷ waiting) last next is = (next.0, next_more (number + 1) waiting last next.1 (omega (arith, is)))

-- if the first tick is later than the receipt, all are
pub all_later : (receipt number : ℕ) (waiting : List Unposted) → AreNext number waiting → receipt ≤ number → All (λ (w : Unposted). receipt < w.number) waiting
all_later receipt number [] next later = All-nil (λ (w : Unposted). receipt < w.number)
all_later receipt number (first ∷ waiting) next later =
    All-cons (λ (w : Unposted). receipt < w.number) first waiting (omega (arith, next.0, later)) (all_later receipt (number + 1) waiting next.1 (omega (arith, later)))

pub first_is : (waiting : List Unposted) (first : Unposted) → Some first ≡ slice_get waiting 0 → (rest : List Unposted) × (waiting ≡ first ∷ rest)
first_is [] first is = absurd (cc)
first_is (other ∷ rest) first is = (rest, cc)

-- if the first answer is later than the receipt, all are
pub first_later : (receipt number : ℕ) (waiting : List Unposted) (first : Unposted) → AreNext number waiting → Some first ≡ slice_get waiting 0 → receipt < first.number → AreLater receipt waiting
first_later receipt number waiting first next is later =
    let front = first_is waiting first is in
    let known : AreNext number (first ∷ front.0) = subst (AreNext number) front.1 next in
    subst (AreLater receipt) (sym front.1) (all_later receipt number (first ∷ front.0) known (omega (arith, known.0, later)))

pub posts_more : (receipt : ℕ) (old mid : Answering) (first : Unposted) (rest : List Unposted) → Posts receipt old mid
    → mid.waiting ≡ first ∷ rest → first.number ≤ receipt → first.number ≡ mid.answered + 1
    → Posts receipt old (record mid { waiting = rest; answered = first.number; posted = first.number })
posts_more receipt old mid first rest p is durable next = record {
  done = p.done ++ first ∷ [];
  order = p.order ∙ (ap (λ (l : List Unposted). p.done ++ l) is ∙ sym (append_assoc p.done (first ∷ []) rest));
  durable = All-push (λ (w : Unposted). w.number ≤ receipt) p.done first p.durable durable;
  room = p.room;
  answered = omega (arith, p.answered, next, length-append p.done (first ∷ []));
  posted = λ _. refl;
  most = λ number few least. omega (arith, durable, least);
}
