-- The test if a gate is shut is right.
use Rattle.std.proofs.Common.{rules}
use Rattle.std.proofs.Common.{◌≡◌, ℕ, ◌⊎◌, inl, inr, Bool, true, false, ◌&&◌, not, nat_eq, nat_lt, eqb-true, lt-ltb, List, length, get_or, sym, ◌∙◌, arith}
use Rattle.std.proofs.lemmas.Bool.{cases_lt}
use Rattle.file_format.specs.Gate.{HasShutGate, HasNoShutGate}
use Rattle.restart.specs.Start.{is_shut}

not_false : (b : Bool) → not b ≡ false → b ≡ true
not_false b e = search rules

both_true : (a b : Bool) → (a && b) ≡ true → (a ≡ true) × (b ≡ true)
both_true d b e = search rules

one_false : (a b : Bool) → (a && b) ≡ false → (a ≡ false) ⊎ (b ≡ false)
one_false d b e = search rules

none_below : (n : ℕ) → nat_lt 0 n ≡ false → n ≡ 0
none_below n e = elim (cases_lt 0 n) [ inl lt ↦ (let h : nat_lt 0 n ≡ true = lt-ltb 0 n lt in absurd (let g : true ≡ false = sym h ∙ e in cc)) | inr le ↦ omega (arith, le) ]

pub shut_yes : (file : List ℕ) → is_shut file ≡ true → HasShutGate file
shut_yes file e = search (rules, both_true)

pub shut_no : (file : List ℕ) → is_shut file ≡ false → HasNoShutGate file
shut_no file e = elim (one_false (nat_lt 0 (length file)) (not (nat_eq (get_or file 0 0) 1)) e) [
  | inl none ↦ inl (none_below (length file) none)
  | inr opened ↦ inr (eqb-true (get_or file 0 0) 1 (not_false (nat_eq (get_or file 0 0) 1) opened))
]
