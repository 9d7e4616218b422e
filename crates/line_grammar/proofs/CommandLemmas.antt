use Rattle.std.proofs.Common.{arith, refl, ◌≡◌, ◌≢◌, ℕ, ◌<◌, ◌≤◌, ◌^◌, lit≤, List, ◌∷◌, ◌++◌, length, decimal, Option, None, codes, unsigned_abs, ℤ, pos, negsuc, inl, inr}
use Rattle.std.specs.Fmt.{signed_decimal}
use Rattle.std.specs.Int.Signed.{mag}
use Rattle.std.proofs.lemmas.Fmt.{decimal_injective, signed_decimal_injective}
use Rattle.std.proofs.lemmas.Int.{ints}
use Rattle.std.proofs.lemmas.List.{length-append}
use Rattle.world_actions.specs.declared.action.Action.TheVariants.{Set, Add, Transfer, Swap, Cap}
use Rattle.line_grammar.specs.declared.command.Command.{Command}
use Rattle.line_grammar.specs.declared.command.Command.TheVariants.{Act, Get, End}
use Rattle.line_grammar.specs.declared.command.TheConstants.{LINE_BYTES}
use Rattle.line_grammar.specs.Command.{Means, IsInBounds, spelling}
use Rattle.line_grammar.proofs.ReadingLemmas.{Decision, reading_exists, reading_unique, same_text, bounded, bounded_difference}
use Rattle.line_grammar.proofs.WordLemmas.{same_cell, same_cell_number, same_first, same_second, none_rest}
use Rattle.line_grammar.proofs.NumberLemmas.{length-cell, length-number, length-difference}

-- a cell in front of bytes that are no rest of a command
module _ (words : List ℕ) (m : ℕ) (rest : List ℕ) (fits : m < 2 ^ 32) (split : words ≡ decimal m ++ (32 ∷ rest)) where
  -- no number after it: no set
  pub none_set : ((n : ℕ) → n < 2 ^ 64 → rest ≢ decimal n) → Means (codes "set " ++ words) None
  none_set none (Act (Set cell value)) bounds is =
      none_rest words m rest (decimal value) fits split (none value bounds.1) cell bounds.0 cc
  none_set none other bounds is = absurd (omega (arith, same_first is, same_second is))

  -- no difference: no add
  pub none_add : ((z : ℤ) → unsigned_abs z < 2 ^ 63 → rest ≢ signed_decimal z) → Means (codes "add " ++ words) None
  none_add none (Act (Add cell by)) bounds is =
      none_rest words m rest (signed_decimal by) fits split (none by bounds.1) cell bounds.0 cc
  none_add none other bounds is = absurd (omega (arith, same_first is))

  -- no cell and number: no move
  pub none_move : ((cell n : ℕ) → cell < 2 ^ 32 → n < 2 ^ 64 → rest ≢ decimal cell ++ (32 ∷ decimal n)) → Means (codes "move " ++ words) None
  none_move none (Act (Transfer from to amount)) bounds is =
      let differs = none to amount bounds.1 bounds.2 in
      none_rest words m rest (decimal to ++ (32 ∷ decimal amount)) fits split differs from bounds.0 cc
  none_move none other bounds is = absurd (omega (arith, same_first is))

  -- no second cell: no swap
  pub none_swap : ((n : ℕ) → n < 2 ^ 32 → rest ≢ decimal n) → Means (codes "swap " ++ words) None
  none_swap none (Act (Swap a b)) bounds is =
      none_rest words m rest (decimal b) fits split (none b bounds.1) a bounds.0 cc
  none_swap none other bounds is = absurd (omega (arith, same_first is, same_second is))

  -- no number: no cap
  pub none_cap : ((n : ℕ) → n < 2 ^ 64 → rest ≢ decimal n) → Means (codes "cap " ++ words) None
  none_cap none (Act (Cap cell value)) bounds is =
      none_rest words m rest (decimal value) fits split (none value bounds.1) cell bounds.0 cc
  none_cap none other bounds is = absurd (omega (arith, same_first is))

-- no number after the second cell
pub none_amount : (rest : List ℕ) (m : ℕ) (last : List ℕ) → m < 2 ^ 32 → rest ≡ decimal m ++ (32 ∷ last)
    → ((n : ℕ) → n < 2 ^ 64 → last ≢ decimal n)
    → (cell n : ℕ) → cell < 2 ^ 32 → n < 2 ^ 64 → rest ≢ decimal cell ++ (32 ∷ decimal n)
none_amount rest m last fits split none cell n cell_fits n_fits =
    none_rest rest m last (decimal n) fits split (none n n_fits) cell cell_fits

-- the same bound in the other measure of a difference
mag-below : (z : ℤ) → unsigned_abs z < 2 ^ 63 → mag z < 2 ^ 63
mag-below (pos n) fits = fits
mag-below (negsuc n) fits = omega (arith, ints, fits)

-- no two commands are spelled the same
pub spelling_injective : (a b : Command) → IsInBounds a → IsInBounds b → spelling a ≡ spelling b → a ≡ b
spelling_injective (Act (Set cell value)) (Act (Set cell' value')) bounds bounds' is =
    let same = same_cell_number cell cell' value value' bounds.0 bounds'.0 bounds.1 bounds'.1 cc in
    cc
spelling_injective (Act (Add cell by)) (Act (Add cell' by')) bounds bounds' is =
    let tail : decimal cell ++ (32 ∷ signed_decimal by) ≡ decimal cell' ++ (32 ∷ signed_decimal by') = cc in
    let cells = same_cell cell cell' (signed_decimal by) (signed_decimal by') bounds.0 bounds'.0 tail in
    let differences = signed_decimal_injective by by' (mag-below by bounds.1) (mag-below by' bounds'.1) cells.1 in
    cc
spelling_injective (Act (Transfer from to amount)) (Act (Transfer from' to' amount')) bounds bounds' is =
    let rest = decimal to ++ (32 ∷ decimal amount) in
    let rest' = decimal to' ++ (32 ∷ decimal amount') in
    let tail : decimal from ++ (32 ∷ rest) ≡ decimal from' ++ (32 ∷ rest') = cc in
    let sources = same_cell from from' rest rest' bounds.0 bounds'.0 tail in
    let same = same_cell_number to to' amount amount' bounds.1 bounds'.1 bounds.2 bounds'.2 sources.1 in
    cc
spelling_injective (Act (Swap x y)) (Act (Swap x' y')) bounds bounds' is =
    let same = same_cell_number x x' y y' bounds.0 bounds'.0 (omega arith) (omega arith) cc in
    cc
spelling_injective (Act (Cap cell value)) (Act (Cap cell' value')) bounds bounds' is =
    let same = same_cell_number cell cell' value value' bounds.0 bounds'.0 bounds.1 bounds'.1 cc in
    cc
spelling_injective (Get cell) (Get cell') bounds bounds' is =
    let cells = decimal_injective cell cell' (omega arith) (omega arith) cc in
    cc
spelling_injective End End bounds bounds' is = refl
spelling_injective (Get cell) (Act (Set cell' value')) bounds bounds' is = absurd (omega (arith, same_first is))
spelling_injective End (Act (Set cell' value')) bounds bounds' is = absurd (omega (arith, same_first is))
spelling_injective a b bounds bounds' is = absurd (omega (arith, same_first is, same_second is))

-- a line has one meaning at most
pub meaning_unique : (line : List ℕ) (a b : Option Command) → Means line a → Means line b → a ≡ b
meaning_unique line a b = reading_unique spelling IsInBounds spelling_injective line a b

-- a command of a cell and a number that the line spells
abbrev Pairs : (ℕ → ℕ → Command) → ℕ → List ℕ → Type 0
Pairs command high line = (cell : ℕ) × (cell < 2 ^ 32) × ((n : ℕ) × (n < high) × (line ≡ spelling (command cell n)))

-- a command of each kind that the line spells
abbrev Sets : List ℕ → Type 0
Sets line = Pairs (λ cell value. Act (Set cell value)) (2 ^ 64) line

abbrev Adds : List ℕ → Type 0
Adds line = (cell : ℕ) × (cell < 2 ^ 32) × ((by : ℤ) × (unsigned_abs by < 2 ^ 63) × (line ≡ spelling (Act (Add cell by))))

abbrev Moves : List ℕ → Type 0
Moves line = (from : ℕ) × (from < 2 ^ 32) × Pairs (λ to amount. Act (Transfer from to amount)) (2 ^ 64) line

abbrev Swaps : List ℕ → Type 0
Swaps line = Pairs (λ a b. Act (Swap a b)) (2 ^ 32) line

abbrev Caps : List ℕ → Type 0
Caps line = Pairs (λ cell value. Act (Cap cell value)) (2 ^ 64) line

abbrev Gets : List ℕ → Type 0
Gets line = (cell : ℕ) × (cell < 2 ^ 32) × (line ≡ spelling (Get cell))

-- the decision if a line spells a command of each kind
pairs : (command : ℕ → ℕ → Command) (high : ℕ) (line : List ℕ) → Decision (Pairs command high line)
pairs command high line = bounded _ (λ cell. bounded _ (λ n. same_text line (spelling (command cell n))) high) (2 ^ 32)

sets : (line : List ℕ) → Decision (Sets line)
sets line = pairs (λ cell value. Act (Set cell value)) (2 ^ 64) line

adds : (line : List ℕ) → Decision (Adds line)
adds line = bounded _ (λ cell. bounded_difference _ (λ by. same_text line (spelling (Act (Add cell by)))) (2 ^ 63)) (2 ^ 32)

moves : (line : List ℕ) → Decision (Moves line)
moves line = bounded _ (λ from. pairs (λ to amount. Act (Transfer from to amount)) (2 ^ 64) line) (2 ^ 32)

swaps : (line : List ℕ) → Decision (Swaps line)
swaps line = pairs (λ a b. Act (Swap a b)) (2 ^ 32) line

caps : (line : List ℕ) → Decision (Caps line)
caps line = pairs (λ cell value. Act (Cap cell value)) (2 ^ 64) line

gets : (line : List ℕ) → Decision (Gets line)
gets line = bounded _ (λ cell. same_text line (spelling (Get cell))) (2 ^ 32)

-- a line that spells none of any kind means nothing
no_kind : (line : List ℕ) → (Sets line → ⊥) → (Adds line → ⊥) → (Moves line → ⊥) → (Swaps line → ⊥) → (Caps line → ⊥)
    → (Gets line → ⊥) → (line ≡ spelling End → ⊥) → Means line None
no_kind line no_set no_add no_move no_swap no_cap no_get no_end (Act (Set cell value)) bounds is =
    no_set (cell, bounds.0, (value, bounds.1, is))
no_kind line no_set no_add no_move no_swap no_cap no_get no_end (Act (Add cell by)) bounds is =
    no_add (cell, bounds.0, (by, bounds.1, is))
no_kind line no_set no_add no_move no_swap no_cap no_get no_end (Act (Transfer from to amount)) bounds is =
    no_move (from, bounds.0, (to, bounds.1, (amount, bounds.2, is)))
no_kind line no_set no_add no_move no_swap no_cap no_get no_end (Act (Swap a b)) bounds is =
    no_swap (a, bounds.0, (b, bounds.1, is))
no_kind line no_set no_add no_move no_swap no_cap no_get no_end (Act (Cap cell value)) bounds is =
    no_cap (cell, bounds.0, (value, bounds.1, is))
no_kind line no_set no_add no_move no_swap no_cap no_get no_end (Get cell) bounds is = no_get (cell, bounds, is)
no_kind line no_set no_add no_move no_swap no_cap no_get no_end End bounds is = no_end is

-- a line spells a command of some kind, or none
some_kind : (line : List ℕ) → Decision (Sets line) → Decision (Adds line) → Decision (Moves line) → Decision (Swaps line)
    → Decision (Caps line) → Decision (Gets line) → Decision (line ≡ spelling End)
    → Decision ((command : Command) × IsInBounds command × (line ≡ spelling command))
some_kind line (inl found) add move swap cap get end =
    let last = found.2 in
    inl (Act (Set found.0 last.0), (found.1, last.1), last.2)
some_kind line (inr no_set) (inl found) move swap cap get end =
    let last = found.2 in
    inl (Act (Add found.0 last.0), (found.1, last.1), last.2)
some_kind line (inr no_set) (inr no_add) (inl found) swap cap get end =
    let rest = found.2 in
    let last = rest.2 in
    inl (Act (Transfer found.0 rest.0 last.0), (found.1, rest.1, last.1), last.2)
some_kind line (inr no_set) (inr no_add) (inr no_move) (inl found) cap get end =
    let last = found.2 in
    inl (Act (Swap found.0 last.0), (found.1, last.1), last.2)
some_kind line (inr no_set) (inr no_add) (inr no_move) (inr no_swap) (inl found) get end =
    let last = found.2 in
    inl (Act (Cap found.0 last.0), (found.1, last.1), last.2)
some_kind line (inr no_set) (inr no_add) (inr no_move) (inr no_swap) (inr no_cap) (inl found) end =
    inl (Get found.0, found.1, found.2)
some_kind line (inr no_set) (inr no_add) (inr no_move) (inr no_swap) (inr no_cap) (inr no_get) (inl is) = inl (End, tt, is)
some_kind line (inr no_set) (inr no_add) (inr no_move) (inr no_swap) (inr no_cap) (inr no_get) (inr no_end) =
    inr (λ found. no_kind line no_set no_add no_move no_swap no_cap no_get no_end found.0 found.1 found.2)

-- the decision if a line spells a command
pub spelled : (line : List ℕ) → Decision ((command : Command) × IsInBounds command × (line ≡ spelling command))
spelled line =
    some_kind line (sets line) (adds line) (moves line) (swaps line) (caps line) (gets line) (same_text line (spelling End))

-- a line has a meaning
pub meaning_exists : (line : List ℕ) → (meaning : Option Command) × Means line meaning
meaning_exists line = reading_exists spelling IsInBounds line (spelled line)

-- a cell and a number are short
length-cell_number : (cell n : ℕ) → cell < 2 ^ 32 → n < 2 ^ 64 → length (decimal cell ++ (32 ∷ decimal n)) ≤ 31
length-cell_number cell n cell_fits fits =
    let cell_bytes = length-cell cell cell_fits in
    let number_bytes = length-number n fits in
    simp length-append (omega (arith, cell_bytes, number_bytes))

-- a line that means something is short
pub length-spelling : (command : Command) → IsInBounds command → length (spelling command) ≤ LINE_BYTES
length-spelling (Act (Set cell value)) bounds =
    let bytes = length-cell_number cell value bounds.0 bounds.1 in
    omega (arith, bytes)
length-spelling (Act (Add cell by)) bounds =
    let cell_bytes = length-cell cell bounds.0 in
    let by_bytes = length-difference by bounds.1 in
    simp length-append (omega (arith, cell_bytes, by_bytes))
length-spelling (Act (Transfer from to amount)) bounds =
    let from_bytes = length-cell from bounds.0 in
    let to_bytes = length-cell to bounds.1 in
    let amount_bytes = length-number amount bounds.2 in
    simp length-append (omega (arith, from_bytes, to_bytes, amount_bytes))
length-spelling (Act (Swap a b)) bounds =
    let bytes = length-cell_number a b bounds.0 (omega arith) in
    omega (arith, bytes)
length-spelling (Act (Cap cell value)) bounds =
    let bytes = length-cell_number cell value bounds.0 bounds.1 in
    omega (arith, bytes)
length-spelling (Get cell) bounds = let cell_bytes = length-cell cell bounds in omega (arith, cell_bytes)
length-spelling End bounds = lit≤ tt
