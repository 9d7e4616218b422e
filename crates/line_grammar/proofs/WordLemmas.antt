use Rattle.std.proofs.Common.{arith, refl, ap, sym, ◌∙◌, ◌≡◌, ◌≢◌, ℕ, suc, ◌<◌, ◌^◌, List, [], ◌∷◌, ◌++◌, length, get_or, slice_index, decimal, take, ◌≤◌}
use Rattle.std.specs.Int.{IsInRange}
use Rattle.std.proofs.lemmas.Fmt.{decimal_is_IsNumeral, decimal_injective}
use Rattle.std.proofs.lemmas.Str.Parse.{digit_at}
use Rattle.std.proofs.lemmas.List.Elements.{All-from_get_or}
use Rattle.std.proofs.lemmas.List.{get_or-take, length-take}
use Rattle.line_grammar.specs.Word.{HasNoSpace}

-- equal texts have the same first byte, and the same second one
pub same_first : {xs ys : List ℕ} → xs ≡ ys → slice_index xs 0 ≡ slice_index ys 0
same_first is = ap (λ (bytes : List ℕ). slice_index bytes 0) is

pub same_second : {xs ys : List ℕ} → xs ≡ ys → slice_index xs 1 ≡ slice_index ys 1
same_second is = ap (λ (bytes : List ℕ). slice_index bytes 1) is

-- the first byte is no space, nor is a later one
HasNoSpace-head : (b : ℕ) (bs : List ℕ) → HasNoSpace (b ∷ bs) → b ≢ 32
HasNoSpace-head b bs none = none 0 0 (omega arith)

HasNoSpace-tail : (b : ℕ) (bs : List ℕ) → HasNoSpace (b ∷ bs) → HasNoSpace bs
HasNoSpace-tail b bs none = λ k d below. none (suc k) d (omega arith)

-- no byte before the place is a space
pub HasNoSpace-take : (words : List ℕ) (i : ℕ) → i ≤ length words → ((k : ℕ) → k < i → slice_index words k ≢ 32) → HasNoSpace (take i words)
HasNoSpace-take words i within none = All-from_get_or (λ byte. byte ≢ 32) (take i words) 0 (λ k below.
    let inside : k < i = omega (arith, below, length-take {A = ℕ}) in
    rw (get_or-take i words k 0 inside) (none k inside))

-- a number is one word
pub HasNoSpace-decimal : (n : ℕ) → n < 2 ^ 64 → HasNoSpace (decimal n)
HasNoSpace-decimal n fits = All-from_get_or (λ byte. byte ≢ 32) (decimal n) 0 (λ k below is.
    let digit : IsInRange 48 57 (get_or (decimal n) k 0) = digit_at (decimal n) k (decimal_is_IsNumeral n fits).0.1 below in
    let low = digit.0 in
    omega (arith, low, is))

-- there is a space in no list with none
pub no_split : (bs a b : List ℕ) → HasNoSpace bs → bs ≢ a ++ (32 ∷ b)
no_split [] [] b none is = cc
no_split [] (x ∷ a) b none is = cc
no_split (y ∷ bs) [] b none is = HasNoSpace-head y bs none cc
no_split (y ∷ bs) (x ∷ a) b none is = no_split bs a b (HasNoSpace-tail y bs none) cc

-- the bytes before the first space, and the rest, are the same in both readings
pub same_split : (a c b d : List ℕ) → HasNoSpace a → HasNoSpace c → a ++ (32 ∷ b) ≡ c ++ (32 ∷ d) → (a ≡ c) × (b ≡ d)
same_split [] [] b d none other is = (refl, cc)
same_split [] (y ∷ c) b d none other is = absurd (HasNoSpace-head y c other cc)
same_split (x ∷ a) [] b d none other is = absurd (HasNoSpace-head x a none cc)
same_split (x ∷ a) (y ∷ c) b d none other is =
    let rest = same_split a c b d (HasNoSpace-tail x a none) (HasNoSpace-tail y c other) cc in
    (cc, rest.1)

-- a cell at the front, and the bytes after its space, are the same in both readings
pub same_cell : (m n : ℕ) (r s : List ℕ) → m < 2 ^ 32 → n < 2 ^ 32 → decimal m ++ (32 ∷ r) ≡ decimal n ++ (32 ∷ s)
    → (m ≡ n) × (r ≡ s)
same_cell m n r s fits other_fits is =
    let parts = same_split (decimal m) (decimal n) r s (HasNoSpace-decimal m (omega arith)) (HasNoSpace-decimal n (omega arith)) is in
    (decimal_injective m n (omega arith) (omega arith) parts.0, parts.1)

-- a cell and a number are the same in both readings
pub same_cell_number : (m n r s : ℕ) → m < 2 ^ 32 → n < 2 ^ 32 → r < 2 ^ 64 → s < 2 ^ 64
    → decimal m ++ (32 ∷ decimal r) ≡ decimal n ++ (32 ∷ decimal s) → (m ≡ n) × (r ≡ s)
same_cell_number m n r s fits other_fits r_fits s_fits is =
    let cells = same_cell m n (decimal r) (decimal s) fits other_fits is in
    (cells.0, decimal_injective r s r_fits s_fits cells.1)

-- words that continue in one way after their cell don't continue in another
pub none_rest : (words : List ℕ) (m : ℕ) (rest other : List ℕ) → m < 2 ^ 32 → words ≡ decimal m ++ (32 ∷ rest) → rest ≢ other
    → (cell : ℕ) → cell < 2 ^ 32 → words ≢ decimal cell ++ (32 ∷ other)
none_rest words m rest other fits split differs cell cell_fits is =
    differs (same_cell m cell rest other fits cell_fits (sym split ∙ is)).1

-- a word that is no cell starts no text of a cell and a space
pub none_cell_word : (words word rest : List ℕ) → words ≡ word ++ (32 ∷ rest) → HasNoSpace word
    → ((cell : ℕ) → cell < 2 ^ 32 → word ≢ decimal cell)
    → (cell : ℕ) (other : List ℕ) → cell < 2 ^ 32 → words ≢ decimal cell ++ (32 ∷ other)
none_cell_word words word rest split first none cell other fits is =
    none cell fits (same_split word (decimal cell) rest other first (HasNoSpace-decimal cell (omega arith)) (sym split ∙ is)).0
