-- The bytes that a reader has left, and those that a writer holds.
use Rattle.std.proofs.Common.{IfSome, refl, ap, sym, subst, ◌-◌, ◌∙◌, ◌≡◌, ℕ, ◌+◌, ◌≤◌, List, [], ◌++◌, append_assoc, append-nil, length, take, drop, Option, Some, None}
use Rattle.std.proofs.Math.Seq.{take-add}
use Rattle.std.proofs.lemmas.List.{take-append-drop, take_rest}
use Rattle.std.specs.Io.KnownBytes.{Appends, Consumes, Keeps, IsAtEnd}
use Rattle.byte_streams.specs.Front.{IsFront}

pub Appends-none : (known : Option (List ℕ)) → Appends known known []
Appends-none None = tt
Appends-none (Some xs) = sym (append-nil xs)

pub Appends-both : (first middle last : Option (List ℕ)) (done more : List ℕ) → Appends first middle done → Appends middle last more → Appends first last (done ++ more)
Appends-both None middle last done more one two = tt
Appends-both (Some xs) None last done more one two = absurd one
Appends-both (Some xs) (Some ys) None done more one two = absurd two
Appends-both (Some xs) (Some ys) (Some zs) done more one two = two ∙ (ap (λ l. l ++ more) one ∙ append_assoc xs done more)

-- the bytes that a reader has left after it gave these bytes
pub consumed : (old new : Option (List ℕ)) (rest bytes : List ℕ) → old ≡ Some rest → Consumes old new bytes
    → (left : List ℕ) × (new ≡ Some left) × (rest ≡ bytes ++ left)
consumed None new rest bytes known consumes = absurd (known_some known)
  where
    known_some : {A : Type 0} {a : A} → None ≡ Some a → ⊥
    known_some e = cc
consumed (Some xs) None rest bytes known consumes = absurd consumes
consumed (Some xs) (Some ys) rest bytes known consumes = (ys, refl, (let e : xs ≡ rest = cc in sym e ∙ consumes))

-- a reader that fails has the same bytes left
pub kept : (old new : Option (List ℕ)) (rest : List ℕ) → old ≡ Some rest → Keeps old new → new ≡ Some rest
kept None new rest known keeps = cc
kept (Some xs) None rest known keeps = absurd keeps
kept (Some xs) (Some ys) rest known keeps = ap Some keeps ∙ known

pub if_some : {A : Type 0} (o : Option A) (P : A → Type 0) → ((a : A) → o ≡ Some a → P a) → IfSome o P
if_some None P f = tt
if_some (Some a) P f = f a refl

-- the bytes that were written so far are a front
pub front_taken : (n : ℕ) (bytes : List ℕ) → IsFront (take n bytes) bytes
front_taken n bytes = (drop n bytes, sym (take-append-drop n bytes))

-- a read after a failed one
pub consumed_after : (old middle new : Option (List ℕ)) (bytes : List ℕ) → Keeps old middle → Consumes middle new bytes → Consumes old new bytes
consumed_after None middle new bytes keeps consumes = tt
consumed_after (Some xs) None new bytes keeps consumes = absurd keeps
consumed_after (Some xs) (Some ys) None bytes keeps consumes = absurd consumes
consumed_after (Some xs) (Some ys) (Some zs) bytes keeps consumes = sym keeps ∙ consumes

-- one front more
pub take-more : (i n : ℕ) (bytes : List ℕ) → i ≤ length bytes → take i bytes ++ take n (take (length bytes - i) (drop i bytes)) ≡ take (i + n) bytes
take-more i n bytes within = rw (take_rest bytes i) (sym (take-add i n bytes))

pub Appends-more : (old middle new : Option (List ℕ)) (i n : ℕ) (bytes : List ℕ) → i ≤ length bytes → Appends old middle (take i bytes)
    → Appends middle new (take n (take (length bytes - i) (drop i bytes))) → Appends old new (take (i + n) bytes)
Appends-more old middle new i n bytes within one two =
    subst (λ (written : List ℕ). Appends old new written) (take-more i n bytes within)
    (Appends-both old middle new (take i bytes) (take n (take (length bytes - i) (drop i bytes))) one two)

-- a reader that gives no byte at its end had none left
pub none_left : (old new : Option (List ℕ)) (rest bytes : List ℕ) (n : ℕ) → old ≡ Some rest → Consumes old new (take n bytes) → n ≡ 0 → IsAtEnd new → rest ≡ []
none_left old new rest bytes n known took none ends =
    let left = consumed old new rest (take n bytes) known took in
    let empty : left.0 ≡ [] = rw left.1 at ends in
    left.2 ∙ (ap (λ k. take k bytes ++ left.0) none ∙ empty)

-- ---- input that was consumed in parts

pub Consumes-none : (known : Option (List ℕ)) → Consumes known known []
Consumes-none None = tt
Consumes-none (Some xs) = refl

pub Consumes-keeps : (old new : Option (List ℕ)) → Keeps old new → Consumes old new []
Consumes-keeps None new keeps = tt
Consumes-keeps (Some xs) None keeps = absurd keeps
Consumes-keeps (Some xs) (Some ys) keeps = sym keeps

pub Consumes-both : (first middle last : Option (List ℕ)) (one two : List ℕ) → Consumes first middle one → Consumes middle last two → Consumes first last (one ++ two)
Consumes-both None middle last one two a b = tt
Consumes-both (Some xs) None last one two a b = absurd a
Consumes-both (Some xs) (Some ys) None one two a b = absurd b
Consumes-both (Some xs) (Some ys) (Some zs) one two a b = a ∙ (ap (λ l. one ++ l) b ∙ sym (append_assoc one two zs))

pub Consumes-kept : (first middle last : Option (List ℕ)) (one : List ℕ) → Consumes first middle one → Keeps middle last → Consumes first last one
Consumes-kept None middle last one a b = tt
Consumes-kept (Some xs) None last one a b = absurd a
Consumes-kept (Some xs) (Some ys) None one a b = absurd b
Consumes-kept (Some xs) (Some ys) (Some zs) one a b = a ∙ ap (λ l. one ++ l) (sym b)
