-- The reading of a value, of several values, or of a count and as many values, for any kind of value.
use Rattle.std.proofs.Common.{◌≡◌, ℕ, zero, suc, ◌+◌, ◌-◌, ◌<◌, ◌≤◌, ◌⊎◌, inl, inr, Bool, true, false, cond, not, ◌||◌, ltb, List}
use Rattle.std.proofs.Common.{[], ◌∷◌, ◌++◌, length, take, drop, Option, Some, None, refl, sym, ap, subst, ◌∙◌, append_assoc}
use Rattle.std.proofs.Common.{arith}
use Rattle.std.specs.List.{flat_map, AllByRecursion}
use Rattle.std.proofs.lemmas.Bool.{le-ltb, lt-ltb, cond-true, cond-false}
use Rattle.std.proofs.lemmas.List.{length-append, length-drop, get_or-drop, append-nil, take_all}
use Rattle.file_format.specs.Number.{IsBytes}
use Rattle.action_log.specs.Reading.{◌>>=◌, Reader, number_at, several_at, counted_at}
use Rattle.action_log.specs.Spellings.{NoneBeginsAnother}

-- ---- bytes, and the results of looking at them

pub IsBytes-drop : (n : ℕ) (bytes : List ℕ) → IsBytes bytes → IsBytes (drop n bytes)
IsBytes-drop n bytes h i = rw get_or-drop (h (n + i))

pub IsBytes-rest : (b : ℕ) (bytes : List ℕ) → IsBytes (b ∷ bytes) → IsBytes bytes
IsBytes-rest b bytes h i = h (suc i)

pub bind_some : {X Y : Type 0} (o : Option X) (next : X → Option Y) (y : Y) → (o >>= next) ≡ Some y → (x : X) × (o ≡ Some x) × (next x ≡ Some y)
bind_some None next y e = absurd cc
bind_some (Some x) next y e = (x, refl, e)

pub guard_some : {X : Type 0} (b : Bool) (o : Option X) (y : X) → cond b None o ≡ Some y → (b ≡ false) × (o ≡ Some y)
guard_some true o y e = absurd cc
guard_some false o y e = (refl, e)

-- a result of a test is the result of one of its sides
pub chosen : {X : Type 0} (b : Bool) (one other : Option X) (y : X) → cond b one other ≡ Some y → ((b ≡ true) × (one ≡ Some y)) ⊎ ((b ≡ false) × (other ≡ Some y))
chosen true one other y e = inl (refl, e)
chosen false one other y e = inr (refl, e)

pub no_value : {X : Type 0} (y : X) → None ≡ Some y → ⊥
no_value y e = cc

abbrev found : {X : Type 0} → X → Option X
found x = Some x

pub found_is : {X : Type 0} (x y : X) → found x ≡ found y → x ≡ y
found_is x y e = cc

pub or_parts : (x y : Bool) → (x || y) ≡ false → (x ≡ false) × (y ≡ false)
or_parts true y h = absurd cc
or_parts false y h = (refl, h)

pub or_both : (x y : Bool) → x ≡ false → y ≡ false → (x || y) ≡ false
or_both true y h k = absurd cc
or_both false y h k = k

pub or_either : (x y : Bool) → (x ≡ true) ⊎ (y ≡ true) → (x || y) ≡ true
or_either true y h = refl
or_either false y (inl h) = absurd cc
or_either false y (inr h) = h

pub or_true : (x y : Bool) → (x || y) ≡ true → (x ≡ true) ⊎ (y ≡ true)
or_true true y h = inl refl
or_true false y h = inr h

pub not_false : (b : Bool) → not b ≡ false → b ≡ true
not_false true h = refl
not_false false h = absurd cc

pub not_true : (b : Bool) → not b ≡ true → b ≡ false
not_true true h = absurd cc
not_true false h = refl

-- all items from a place on
pub from_place : (place : ℕ) (bytes : List ℕ) → take (length bytes - place) (drop place bytes) ≡ drop place bytes
from_place place bytes = take_all (length bytes - place) (drop place bytes) (omega (arith, length-drop place bytes))

-- ---- the meaning of reading

-- the front of these bytes is the spelling of such a value, and these follow
pub record Takes {X : Type 0} (Is : X → Type 0) (spelling : X → List ℕ) (bytes : List ℕ) (x : X) (rest : List ℕ) : Type 0 where
  pub parts : bytes ≡ spelling x ++ rest
  pub are_bytes : IsBytes rest
  pub is : Is x

-- a reader takes a spelling from the front, and reads each spelling again
pub record Reads {X : Type 0} (one : Reader X) (Is : X → Type 0) (spelling : X → List ℕ) : Type 0 where
  pub takes : (bytes : List ℕ) (x : X) (rest : List ℕ) → IsBytes bytes → one bytes ≡ Some (x, rest) → Takes Is spelling bytes x rest
  pub again : (x : X) (rest : List ℕ) → Is x → one (spelling x ++ rest) ≡ Some (x, rest)

-- values that are read again have spellings that are no prefixes of one another
pub apart : {X : Type 0} (one : Reader X) (Is : X → Type 0) (spelling : X → List ℕ) → Reads one Is spelling → NoneBeginsAnother Is spelling
apart one Is spelling r x y more other f g e =
    let pair = found_is (x, more) (y, other) (sym (r.again x more f) ∙ ap one e ∙ r.again y other g) in
    (ap (λ (p : _ × List ℕ). p.0) pair, ap (λ (p : _ × List ℕ). p.1) pair)

pub several_takes : {X : Type 0} (one : Reader X) (Is : X → Type 0) (spelling : X → List ℕ) → Reads one Is spelling
    → (n : ℕ) (bytes : List ℕ) (xs : List X) (rest : List ℕ) → IsBytes bytes → several_at one n bytes ≡ Some (xs, rest)
    → Takes (λ xs. AllByRecursion Is xs × (length xs ≡ n)) (flat_map spelling) bytes xs rest
unfolding several_at
several_takes {X = X} one Is spelling r zero bytes xs rest fits e =
    subst (λ (p : List X × List ℕ). Takes (λ xs. AllByRecursion Is xs × (length xs ≡ 0)) (flat_map spelling) bytes p.0 p.1)
    (found_is ([], bytes) (xs, rest) e) (record { parts = refl; are_bytes = fits; is = (tt, refl) })
several_takes {X = X} one Is spelling r (suc n) bytes xs rest fits e =
    let p = bind_some (one bytes) (λ first. several_at one n first.1 >>= (λ others. Some (first.0 ∷ others.0, others.1))) (xs, rest) e in
    let a = r.takes bytes p.0.0 p.0.1 fits p.1 in
    let q = bind_some (several_at one n p.0.1) (λ others. Some (p.0.0 ∷ others.0, others.1)) (xs, rest) p.2 in
    let b = several_takes one Is spelling r n p.0.1 q.0.0 q.0.1 a.are_bytes q.1 in
    subst (λ (p : List X × List ℕ). Takes (λ xs. AllByRecursion Is xs × (length xs ≡ suc n)) (flat_map spelling) bytes p.0 p.1) (found_is (p.0.0 ∷ q.0.0, q.0.1) (xs, rest) q.2)
    (record {
      parts = a.parts ∙ ap (λ l. spelling p.0.0 ++ l) b.parts ∙ sym (append_assoc (spelling p.0.0) (flat_map spelling q.0.0) q.0.1);
      are_bytes = b.are_bytes;
      is = ((a.is, b.is.0), ap suc b.is.1);
    })

pub several_again : {X : Type 0} (one : Reader X) (Is : X → Type 0) (spelling : X → List ℕ) → Reads one Is spelling
    → (xs : List X) (rest : List ℕ) → AllByRecursion Is xs → several_at one (length xs) (flat_map spelling xs ++ rest) ≡ Some (xs, rest)
unfolding several_at
several_again one Is spelling r [] rest f = refl
several_again one Is spelling r (x ∷ xs) rest f =
    ap (λ l. one l >>= (λ first. several_at one (length xs) first.1 >>= (λ others. Some (first.0 ∷ others.0, others.1)))) (append_assoc (spelling x) (flat_map spelling xs) rest)
    ∙ ap (λ o. o >>= (λ first. several_at one (length xs) first.1 >>= (λ others. Some (first.0 ∷ others.0, others.1)))) (r.again x (flat_map spelling xs ++ rest) f.0)
    ∙ ap (λ o. o >>= (λ others. Some (x ∷ others.0, others.1))) (several_again one Is spelling r xs rest f.1)

-- these values and those that are read
abbrev pub onto_all : {X : Type 0} → List X → Option (List X × List ℕ) → Option (List X × List ℕ)
onto_all done read = read >>= (λ others. Some (done ++ others.0, others.1))

-- one more value is read
pub several_next : {X : Type 0} (one : Reader X) (done : List X) (m n : ℕ) (bytes rest : List ℕ) (x : X) → m ≡ n + 1
    → one bytes ≡ Some (x, rest) → onto_all done (several_at one m bytes) ≡ onto_all (done ++ x ∷ []) (several_at one n rest)
unfolding several_at
several_next one done zero n bytes rest x more e = absurd (omega (arith, more))
several_next {X = X} one done (suc m) n bytes rest x more e =
    let same : m ≡ n = omega (arith, more) in
    ap (λ o. onto_all done (o >>= (λ first. several_at one m first.1 >>= (λ others. Some (first.0 ∷ others.0, others.1))))) e
    ∙ go (several_at one m rest) ∙ ap (λ k. onto_all (done ++ x ∷ []) (several_at one k rest)) same
  where
    go : (o : Option (List X × List ℕ)) → onto_all done (o >>= (λ others. Some (x ∷ others.0, others.1))) ≡ onto_all (done ++ x ∷ []) o
    go None = refl
    go (Some others) = ap (λ l. Some (l, others.1)) (sym (append_assoc done (x ∷ []) others.0))

-- no further value is read
pub several_none : {X : Type 0} (one : Reader X) (done : List X) (m : ℕ) (bytes : List ℕ) → 0 < m → one bytes ≡ None → onto_all done (several_at one m bytes) ≡ None
unfolding several_at
several_none one done zero bytes some e = absurd (omega (arith, some))
several_none one done (suc m) bytes some e = ap (λ o. onto_all done (o >>= (λ first. several_at one m first.1 >>= (λ others. Some (first.0 ∷ others.0, others.1))))) e

-- all are read
pub several_all : {X : Type 0} (one : Reader X) (done : List X) (m : ℕ) (bytes : List ℕ) → m ≡ 0 → onto_all done (several_at one m bytes) ≡ Some (done, bytes)
unfolding several_at
several_all one done zero bytes none = ap (λ l. Some (l, bytes)) (append-nil done)
several_all one done (suc m) bytes none = absurd (omega (arith, none))

-- ---- counting

-- these values are read from bytes, and these bytes are left
pub record AreRead {X : Type 0} (one : Reader X) (many counter : ℕ) (values : List X) (bytes rest : List ℕ) : Type 0 where
  pub so_many : length values ≡ counter
  pub within : counter ≤ many
  pub all : several_at one many bytes ≡ onto_all values (several_at one (many - counter) rest)

-- no value is read yet
pub read_start : {X : Type 0} {one : Reader X} {many : ℕ} {bytes : List ℕ} → AreRead one many 0 [] bytes bytes
read_start {X = X} {one = one} {many = many} {bytes = bytes} =
    let left : many ≡ many - 0 = omega arith in
    record {
      so_many = refl;
      within = omega arith;
      all = go (several_at one many bytes) ∙ ap (λ n. onto_all [] (several_at one n bytes)) left;
    }
  where
    go : (o : Option (List X × List ℕ)) → o ≡ onto_all [] o
    go None = refl
    go (Some others) = refl

-- one more is read
pub read_next : {X : Type 0} {one : Reader X} {many counter : ℕ} {values : List X} {bytes rest next : List ℕ} {x : X}
    → AreRead one many counter values bytes rest → counter < many → one rest ≡ Some (x, next) → AreRead one many (counter + 1) (values ++ x ∷ []) bytes next
read_next {one = one} {many = many} {counter = counter} {values = values} {rest = rest} {next = next} {x = x} r more e = record {
  so_many = omega (arith, length-append values (x ∷ []), r.so_many);
  within = omega (arith, more);
  all = r.all ∙ several_next one values (many - counter) (many - (counter + 1)) rest next x (omega (arith, more)) e;
}

-- no further one is read
pub read_none : {X : Type 0} {one : Reader X} {many counter : ℕ} {values : List X} {bytes rest : List ℕ}
    → AreRead one many counter values bytes rest → counter < many → one rest ≡ None → several_at one many bytes ≡ None
read_none {one = one} {many = many} {counter = counter} {values = values} {rest = rest} r more e = r.all ∙ several_none one values (many - counter) rest (omega (arith, more)) e

-- all are read
pub read_all : {X : Type 0} {one : Reader X} {many counter : ℕ} {values : List X} {bytes rest : List ℕ}
    → AreRead one many counter values bytes rest → many ≤ counter → several_at one many bytes ≡ Some (values, rest)
read_all {one = one} {many = many} {counter = counter} {values = values} {rest = rest} r last = r.all ∙ several_all one values (many - counter) rest (omega (arith, last))

-- no count is read
pub counted_none : {X : Type 0} (one : Reader X) (least most : ℕ) (bytes : List ℕ) → None ≡ number_at 2 bytes → counted_at one least most bytes ≡ None
unfolding counted_at
counted_none one least most bytes e = ap (λ o. o >>= (λ count. cond (ltb count.0 least || ltb most count.0) None (several_at one count.0 count.1))) (sym e)

-- a count is read that is out of bounds
pub counted_outside : {X : Type 0} (one : Reader X) (least most count : ℕ) (bytes rest : List ℕ)
    → Some (count, rest) ≡ number_at 2 bytes → (count < least) ⊎ (most < count) → counted_at one least most bytes ≡ None
unfolding counted_at
counted_outside one least most count bytes rest e outside =
    ap (λ o. o >>= (λ count. cond (ltb count.0 least || ltb most count.0) None (several_at one count.0 count.1))) (sym e)
    ∙ cond-true (ltb count least || ltb most count) None (several_at one count rest) (or_either (ltb count least) (ltb most count) (elim outside [
      | inl low ↦ inl (lt-ltb count least low)
      | inr high ↦ inr (lt-ltb most count high)
    ]))

-- a count is read that is within bounds
pub counted_inside : {X : Type 0} (one : Reader X) (least most count : ℕ) (bytes rest : List ℕ)
    → Some (count, rest) ≡ number_at 2 bytes → least ≤ count → count ≤ most → counted_at one least most bytes ≡ several_at one count rest
unfolding counted_at
counted_inside one least most count bytes rest e low high =
    ap (λ o. o >>= (λ count. cond (ltb count.0 least || ltb most count.0) None (several_at one count.0 count.1))) (sym e)
    ∙ cond-false (ltb count least || ltb most count) None (several_at one count rest) (or_both (ltb count least) (ltb most count) (le-ltb _ _ low) (le-ltb _ _ high))
