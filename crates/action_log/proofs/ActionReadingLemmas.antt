-- The readers of an action, of a tick and of a group after its gate take their spellings, and read them again.
use Rattle.std.proofs.Common.{◌≡◌, ℕ, ◌^◌, ◌<◌, ◌≤◌, inl, inr, true, false, cond, ◌||◌, ltb, eqb, List, [], ◌∷◌, ◌++◌, length, take, drop, Some, None, refl, sym, ap, subst, ◌∙◌, append_assoc, arith}
use Rattle.std.specs.List.{flat_map, AllByRecursion}
use Rattle.std.specs.Int.{w64, cast_unsigned, cast_signed}
use Rattle.std.proofs.lemmas.Bool.{ltb-false, le-ltb, eqb-true, cond-false}
use Rattle.std.proofs.lemmas.List.{drop_at, take-append-drop, length-append}
use mir.Facts.{to_z-of_z, of_z-to_z, sfits_to_z, Fits-of_z, Fits-of_lt, Fits-lt-pow}
use Rattle.world_actions.specs.declared.action.Action.{Action}
use Rattle.world_actions.specs.declared.action.Action.TheVariants.{Set, Add, Transfer, Swap, Cap}
use Rattle.world_ticks.specs.declared.tick.TheConstants.{TICK_ACTIONS}
use Rattle.file_format.specs.declared.format.Format.{Format}
use Rattle.file_format.specs.Number.{IsBytes, number_bytes, number_of}
use Rattle.file_format.proofs.NumberLemmas.{length-number_bytes, number_of-number_bytes, number_bytes-number_of, number_of-below}
use Rattle.action_log.specs.declared.format.TheConstants.{GROUP_TICKS, SET, ADD, TRANSFER, SWAP, CAP}
use Rattle.action_log.specs.Segment.{kind_of, last_kind, HasRoom, IsAction, action_bytes, IsTick, tick_bytes, IsGroup}
use Rattle.action_log.specs.Reading.{◌>>=◌, Reader, number_at, two_at, fields_at, action_at, several_at, counted_at, tick_at, group_at}
use Rattle.action_log.proofs.ValueReadingLemmas.{IsBytes-drop, IsBytes-rest, bind_some, guard_some, chosen, no_value, found_is, or_parts, or_both, Takes, Reads, several_takes, several_again}

-- ---- two numbers in a row, and the actions that they make

abbrev TwoNumbers : ℕ → ℕ → ℕ × ℕ → Type 0
TwoNumbers w v p = (p.0 < 256 ^ w) × (p.1 < 256 ^ v)

abbrev two_bytes : ℕ → ℕ → ℕ × ℕ → List ℕ
two_bytes w v p = number_bytes w p.0 ++ number_bytes v p.1

-- an action of a kind follows its kind
abbrev TakesKind : ℕ → List ℕ → Action → List ℕ → Type 0
TakesKind kind bytes x rest = Takes (λ x. (kind_of x ≡ kind) × HasRoom x) action_bytes (kind ∷ bytes) x rest

-- two numbers make an action of a kind
abbrev MakesKind : (kind w v : ℕ) → (ℕ → ℕ → Action) → Type 0
MakesKind kind w v build = (m n : ℕ) → m < 256 ^ w → n < 256 ^ v → (kind ∷ (number_bytes w m ++ number_bytes v n) ≡ action_bytes (build m n)) × (kind_of (build m n) ≡ kind) × HasRoom (build m n)

add_made : MakesKind ADD 4 8 (λ cell difference. Add cell (cast_signed w64 difference))
add_made cell difference small fits =
    let same : cast_unsigned w64 (cast_signed w64 difference) ≡ difference = of_z-to_z {w = w64} {n = difference} (Fits-of_lt fits) in
    (ap (λ n. ADD ∷ (number_bytes 4 cell ++ number_bytes 8 n)) (sym same), refl, (small, sfits_to_z {w = w64} {n = difference} (Fits-of_lt fits)))

-- a count, and as many values
abbrev IsCounted : {X : Type 0} → (X → Type 0) → ℕ → ℕ → List X → Type 0
IsCounted Is least most xs = (least ≤ length xs) × (length xs ≤ most) × AllByRecursion Is xs

abbrev pub counted_bytes : {X : Type 0} → (X → List ℕ) → List X → List ℕ
counted_bytes spelling xs = number_bytes 2 (length xs) ++ flat_map spelling xs

-- ---- numbers

number_takes : (width : ℕ) (bytes : List ℕ) (n : ℕ) (rest : List ℕ) → IsBytes bytes → number_at width bytes ≡ Some (n, rest) → Takes (λ n. n < 256 ^ width) (number_bytes width) bytes n rest
unfolding number_at
number_takes width bytes n rest fits e =
    let g = guard_some (ltb (length bytes) width) (Some (number_of width bytes, drop width bytes)) (n, rest) e in
    let long : width ≤ length bytes = ltb-false _ _ g.0 in
    let pair = found_is (number_of width bytes, drop width bytes) (n, rest) g.1 in
    let n-is : number_of width bytes ≡ n = ap (λ (p : ℕ × List ℕ). p.0) pair in
    let rest-is : drop width bytes ≡ rest = ap (λ (p : ℕ × List ℕ). p.1) pair in
    let front : number_bytes width n ≡ take width bytes = rw (← n-is) (number_bytes-number_of width bytes fits long) in
    record {
      parts = rw (front, ← rest-is) (sym (take-append-drop width bytes));
      are_bytes = rw (← rest-is) (IsBytes-drop width bytes fits);
      is = rw (← n-is) (number_of-below width bytes fits);
    }

number_again : (width n : ℕ) (rest : List ℕ) → n < 256 ^ width → number_at width (number_bytes width n ++ rest) ≡ Some (n, rest)
unfolding number_at
number_again width n rest lt =
    let len = length-number_bytes width n in
    let long : ltb (length (number_bytes width n ++ rest)) width ≡ false = le-ltb _ _ (omega (arith, length-append (number_bytes width n) rest)) in
    rw (long, number_of-number_bytes width n rest lt, drop_at (number_bytes width n) rest width len) refl

-- two numbers in a row
two_again : {X : Type 0} (w v m n : ℕ) (rest : List ℕ) (build : ℕ → ℕ → X) → m < 256 ^ w → n < 256 ^ v → two_at w v build ((number_bytes w m ++ number_bytes v n) ++ rest) ≡ Some (build m n, rest)
unfolding two_at
two_again w v m n rest build lm ln =
    ap (λ bytes. number_at w bytes >>= (λ p. number_at v p.1 >>= (λ q. Some (build p.0 q.0, q.1)))) (append_assoc (number_bytes w m) (number_bytes v n) rest)
    ∙ ap (λ o. o >>= (λ p. number_at v p.1 >>= (λ q. Some (build p.0 q.0, q.1)))) (number_again w m (number_bytes v n ++ rest) lm)
    ∙ ap (λ o. o >>= (λ q. Some (build m q.0, q.1))) (number_again v n rest ln)

two_takes : {X : Type 0} (w v : ℕ) (build : ℕ → ℕ → X) (bytes : List ℕ) (x : X) (rest : List ℕ) → IsBytes bytes
    → two_at w v build bytes ≡ Some (x, rest) → (p : ℕ × ℕ) × Takes (TwoNumbers w v) (two_bytes w v) bytes p rest × (build p.0 p.1 ≡ x)
unfolding two_at
two_takes {X = X} w v build bytes x rest fits e =
    let p = bind_some (number_at w bytes) (λ one. number_at v one.1 >>= (λ other. Some (build one.0 other.0, other.1))) (x, rest) e in
    let a = number_takes w bytes p.0.0 p.0.1 fits p.1 in
    let q = bind_some (number_at v p.0.1) (λ other. Some (build p.0.0 other.0, other.1)) (x, rest) p.2 in
    let b = number_takes v p.0.1 q.0.0 q.0.1 a.are_bytes q.1 in
    let pair = found_is (build p.0.0 q.0.0, q.0.1) (x, rest) q.2 in
    let read : Takes (TwoNumbers w v) (two_bytes w v) bytes (p.0.0, q.0.0) q.0.1 = record {
      parts = a.parts ∙ ap (λ l. number_bytes w p.0.0 ++ l) b.parts ∙ sym (append_assoc (number_bytes w p.0.0) (number_bytes v q.0.0) q.0.1);
      are_bytes = b.are_bytes;
      is = (a.is, b.is);
    } in
    ((p.0.0, q.0.0), subst (λ (l : List ℕ). Takes (TwoNumbers w v) (two_bytes w v) bytes (p.0.0, q.0.0) l) (ap (λ (p : X × List ℕ). p.1) pair) read, ap (λ (p : X × List ℕ). p.0) pair)

-- ---- actions

kind_takes : (kind w v : ℕ) (build : ℕ → ℕ → Action) → MakesKind kind w v build → (bytes : List ℕ) (x : Action) (rest : List ℕ)
    → IsBytes bytes → two_at w v build bytes ≡ Some (x, rest) → TakesKind kind bytes x rest
kind_takes kind w v build makes bytes x rest fits e =
    let read = two_takes w v build bytes x rest fits e in
    let made = makes read.0.0 read.0.1 read.1.is.0 read.1.is.1 in
    subst (λ (x : Action). TakesKind kind bytes x rest) read.2
    (record {
      parts = ap (λ l. kind ∷ l) read.1.parts ∙ ap (λ l. l ++ rest) made.0;
      are_bytes = read.1.are_bytes;
      is = (made.1, made.2);
    })

transfer_takes : (bytes : List ℕ) (x : Action) (rest : List ℕ) → IsBytes bytes
    → (number_at 4 bytes >>= (λ from. two_at 4 8 (Transfer from.0) from.1)) ≡ Some (x, rest) → TakesKind TRANSFER bytes x rest
transfer_takes bytes x rest fits e =
    let p = bind_some (number_at 4 bytes) (λ from. two_at 4 8 (Transfer from.0) from.1) (x, rest) e in
    let a = number_takes 4 bytes p.0.0 p.0.1 fits p.1 in
    let read = two_takes 4 8 (Transfer p.0.0) p.0.1 x rest a.are_bytes p.2 in
    subst (λ (x : Action). TakesKind TRANSFER bytes x rest) read.2
    (record {
      parts = ap (λ l. TRANSFER ∷ l) (a.parts ∙ ap (λ l. number_bytes 4 p.0.0 ++ l) read.1.parts ∙ sym (append_assoc (number_bytes 4 p.0.0) (two_bytes 4 8 read.0) rest));
      are_bytes = read.1.are_bytes;
      is = (refl, (a.is, read.1.is.0, read.1.is.1));
    })

fields_take : (kind : ℕ) (bytes : List ℕ) (x : Action) (rest : List ℕ) → IsBytes bytes → fields_at kind bytes ≡ Some (x, rest) → TakesKind kind bytes x rest
unfolding fields_at
fields_take kind bytes x rest fits e =
    let at : (n : ℕ) → eqb kind n ≡ true → TakesKind n bytes x rest → TakesKind kind bytes x rest =
    λ n is. subst (λ (k : ℕ). TakesKind k bytes x rest) (sym (eqb-true kind n is)) in
    elim (chosen (eqb kind SET) _ _ (x, rest) e) [
      | inl set ↦ at SET set.0 (kind_takes SET 4 8 Set (λ m n lm ln. (refl, refl, (lm, ln))) bytes x rest fits set.1)
      | inr not_set ↦ elim (chosen (eqb kind ADD) _ _ (x, rest) not_set.1) [
        | inl add ↦ at ADD add.0 (kind_takes ADD 4 8 (λ cell difference. Add cell (cast_signed w64 difference)) add_made bytes x rest fits add.1)
        | inr not_add ↦ elim (chosen (eqb kind TRANSFER) _ _ (x, rest) not_add.1) [
          | inl transfer ↦ at TRANSFER transfer.0 (transfer_takes bytes x rest fits transfer.1)
          | inr not_transfer ↦ elim (chosen (eqb kind SWAP) _ _ (x, rest) not_transfer.1) [
            | inl swap ↦ at SWAP swap.0 (kind_takes SWAP 4 4 Swap (λ m n lm ln. (refl, refl, (lm, ln))) bytes x rest fits swap.1)
            | inr not_swap ↦ elim (chosen (eqb kind CAP) _ _ (x, rest) not_swap.1) [
              | inl cap ↦ at CAP cap.0 (kind_takes CAP 4 8 Cap (λ m n lm ln. (refl, refl, (lm, ln))) bytes x rest fits cap.1)
              | inr none ↦ absurd (no_value (x, rest) none.1)
            ]
          ]
        ]
      ]
    ]

action_takes : (format : Format) (bytes : List ℕ) (x : Action) (rest : List ℕ) → IsBytes bytes → action_at format bytes ≡ Some (x, rest) → Takes (IsAction format) action_bytes bytes x rest
unfolding action_at
action_takes format [] x rest fits e = absurd cc
action_takes format (kind ∷ bytes) x rest fits e =
    let known = guard_some (ltb (last_kind format) kind) (fields_at kind bytes) (x, rest) e in
    let within : kind ≤ last_kind format = ltb-false _ _ known.0 in
    let read = fields_take kind bytes x rest (IsBytes-rest kind bytes fits) known.1 in
    record { parts = read.parts; are_bytes = read.are_bytes; is = (subst (λ (k : ℕ). k ≤ last_kind format) (sym read.is.0) within, read.is.1) }

-- a kind that the format has is read
known_kind : (format : Format) (kind : ℕ) (bytes : List ℕ) → kind ≤ last_kind format → action_at format (kind ∷ bytes) ≡ fields_at kind bytes
unfolding action_at
known_kind format kind bytes within = cond-false (ltb (last_kind format) kind) None (fields_at kind bytes) (le-ltb _ _ within)

action_again : (format : Format) (x : Action) (rest : List ℕ) → IsAction format x → action_at format (action_bytes x ++ rest) ≡ Some (x, rest)
unfolding fields_at
action_again format (Set cell value) rest f = known_kind format SET (two_bytes 4 8 (cell, value) ++ rest) f.0 ∙ two_again 4 8 cell value rest Set f.1.0 f.1.1
action_again format (Add cell by) rest f =
    let lt : cast_unsigned w64 by < 2 ^ 64 = Fits-lt-pow (Fits-of_z {w = w64} {z = by} f.1.1) in
    known_kind format ADD (two_bytes 4 8 (cell, cast_unsigned w64 by) ++ rest) f.0
    ∙ two_again 4 8 cell (cast_unsigned w64 by) rest (λ c d. Add c (cast_signed w64 d)) f.1.0 lt
    ∙ ap (λ d. Some (Add cell d, rest)) (to_z-of_z f.1.1)
action_again format (Transfer from to amount) rest f =
    known_kind format TRANSFER ((number_bytes 4 from ++ two_bytes 4 8 (to, amount)) ++ rest) f.0
    ∙ ap (λ bytes. number_at 4 bytes >>= (λ from. two_at 4 8 (Transfer from.0) from.1)) (append_assoc (number_bytes 4 from) (two_bytes 4 8 (to, amount)) rest)
    ∙ ap (λ o. o >>= (λ from. two_at 4 8 (Transfer from.0) from.1)) (number_again 4 from (two_bytes 4 8 (to, amount) ++ rest) f.1.0)
    ∙ two_again 4 8 to amount rest (Transfer from) f.1.1 f.1.2
action_again format (Swap a b) rest f = known_kind format SWAP (two_bytes 4 4 (a, b) ++ rest) f.0 ∙ two_again 4 4 a b rest Swap f.1.0 f.1.1
action_again format (Cap cell value) rest f = known_kind format CAP (two_bytes 4 8 (cell, value) ++ rest) f.0 ∙ two_again 4 8 cell value rest Cap f.1.0 f.1.1

pub action_reads : (format : Format) → Reads (action_at format) (IsAction format) action_bytes
action_reads format = record { takes = action_takes format; again = action_again format }

-- ---- a count and so many

counted_takes : {X : Type 0} (one : Reader X) (Is : X → Type 0) (spelling : X → List ℕ) → Reads one Is spelling
    → (least most : ℕ) (bytes : List ℕ) (xs : List X) (rest : List ℕ) → IsBytes bytes
    → counted_at one least most bytes ≡ Some (xs, rest) → Takes (IsCounted Is least most) (counted_bytes spelling) bytes xs rest
unfolding counted_at
counted_takes one Is spelling r least most bytes xs rest fits e =
    let p = bind_some (number_at 2 bytes) (λ count. cond (ltb count.0 least || ltb most count.0) None (several_at one count.0 count.1)) (xs, rest) e in
    let a = number_takes 2 bytes p.0.0 p.0.1 fits p.1 in
    let g = guard_some (ltb p.0.0 least || ltb most p.0.0) (several_at one p.0.0 p.0.1) (xs, rest) p.2 in
    let b = several_takes one Is spelling r p.0.0 p.0.1 xs rest a.are_bytes g.1 in
    let bounds = or_parts (ltb p.0.0 least) (ltb most p.0.0) g.0 in
    let low : least ≤ p.0.0 = ltb-false _ _ bounds.0 in
    let high : p.0.0 ≤ most = ltb-false _ _ bounds.1 in
    let len : length xs ≡ p.0.0 = b.is.1 in
    record {
      parts =
          a.parts ∙ ap (λ l. number_bytes 2 p.0.0 ++ l) b.parts ∙ ap (λ n. number_bytes 2 n ++ (flat_map spelling xs ++ rest))
          (sym len) ∙ sym (append_assoc (number_bytes 2 (length xs)) (flat_map spelling xs) rest);
      are_bytes = b.are_bytes;
      is = (omega arith, omega arith, b.is.0);
    }

counted_again : {X : Type 0} (one : Reader X) (Is : X → Type 0) (spelling : X → List ℕ) → Reads one Is spelling → (least most : ℕ)
    → most < 2 ^ 16 → (xs : List X) (rest : List ℕ) → IsCounted Is least most xs → counted_at one least most (counted_bytes spelling xs ++ rest) ≡ Some (xs, rest)
unfolding counted_at
counted_again one Is spelling r least most small xs rest f =
    let in_range : (ltb (length xs) least || ltb most (length xs)) ≡ false = or_both (ltb (length xs) least) (ltb most (length xs)) (le-ltb _ _ f.0) (le-ltb _ _ f.1) in
    ap (λ l. number_at 2 l >>= (λ count. cond (ltb count.0 least || ltb most count.0) None (several_at one count.0 count.1))) (append_assoc (number_bytes 2 (length xs)) (flat_map spelling xs) rest)
    ∙ ap (λ o. o >>= (λ count. cond (ltb count.0 least || ltb most count.0) None (several_at one count.0 count.1))) (number_again 2 (length xs) (flat_map spelling xs ++ rest) (omega (arith, f.1)))
    ∙ cond-false (ltb (length xs) least || ltb most (length xs)) None (several_at one (length xs) (flat_map spelling xs ++ rest)) in_range
    ∙ several_again one Is spelling r xs rest f.2

pub tick_reads : (format : Format) → Reads (tick_at format) (IsTick format) tick_bytes
tick_reads format = record {
  takes =
      λ bytes x rest fits e.
      (let t = counted_takes (action_at format) (IsAction format) action_bytes (action_reads format) 0 TICK_ACTIONS bytes x rest
      fits e in record { parts = t.parts; are_bytes = t.are_bytes; is = (t.is.1, t.is.2) });
  again = λ x rest f. counted_again (action_at format) (IsAction format) action_bytes (action_reads format) 0 TICK_ACTIONS (omega arith) x rest (omega arith, f.0, f.1);
}

-- a group after its gate
pub group_reads : (format : Format) → Reads (group_at format) (IsGroup format) (counted_bytes tick_bytes)
group_reads format = record {
  takes = λ bytes x rest fits e. counted_takes (tick_at format) (IsTick format) tick_bytes (tick_reads format) 1 GROUP_TICKS bytes x rest fits e;
  again = λ x rest f. counted_again (tick_at format) (IsTick format) tick_bytes (tick_reads format) 1 GROUP_TICKS (omega arith) x rest f;
}
