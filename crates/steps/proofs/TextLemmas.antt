-- Words with one space between.
use Rattle.std.proofs.Common.{add-one, arith, refl, ap, sym, ◌≡◌, ℕ, zero, suc, ◌+◌, ◌<◌, List, [], ◌∷◌, ◌++◌, append_assoc, length, get_or, take, map, decimal}
use Rattle.std.proofs.Math.Seq.{take-suc}
use Rattle.std.specs.List.{join_with_byte}

join_more : (c : ℕ) (x : List ℕ) (xs : List (List ℕ)) (y : List ℕ) → join_with_byte c (x ∷ (xs ++ y ∷ [])) ≡ join_with_byte c (x ∷ xs) ++ (c ∷ y)
join_more c x [] y = refl
join_more c x (z ∷ zs) y = rw (join_more c z zs y) (sym (append_assoc x (c ∷ join_with_byte c (z ∷ zs)) (c ∷ y)))

map_more : (ws : List ℕ) (w : ℕ) → map decimal (ws ++ w ∷ []) ≡ map decimal ws ++ decimal w ∷ []
map_more [] w = refl
map_more (v ∷ ws) w = ap (λ xs. decimal v ∷ xs) (map_more ws w)

-- the first word
pub words_first : (ws : List ℕ) → 0 < length ws → join_with_byte 32 (map decimal (take 1 ws)) ≡ decimal (get_or ws 0 0)
words_first [] some = absurd (omega arith)
words_first (w ∷ ws) some = refl

-- one more word after the first
pub words_more : (ws : List ℕ) (i : ℕ) → 0 < i → i < length ws
    → join_with_byte 32 (map decimal (take (i + 1) ws)) ≡ join_with_byte 32 (map decimal (take i ws)) ++ (32 ∷ decimal (get_or ws i 0))
words_more [] i some below = absurd (omega arith)
words_more (w ∷ ws) zero some below = absurd (omega arith)
words_more (w ∷ ws) (suc i) some below = more ws i (omega arith)
  where
    more : (rest : List ℕ) (k : ℕ) → k < length rest
        → join_with_byte 32 (map decimal (take (suc k + 1) (w ∷ rest))) ≡ join_with_byte 32 (map decimal (take (suc k) (w ∷ rest))) ++ (32 ∷ decimal (get_or (w ∷ rest) (suc k) 0))
    more rest k inside = rw (add-one, take-suc rest k 0 inside, map_more (take k rest) (get_or rest k 0)) (join_more 32 (decimal w) (map decimal (take k rest)) (decimal (get_or rest k 0)))
