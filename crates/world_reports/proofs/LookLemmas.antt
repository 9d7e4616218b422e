-- Looks that compare alike are alike.
use Rattle.std.proofs.Common.{◌≡◌, Bool, true, false, ◌&&◌, ◌==◌, ℕ, Option, Some, None, refl, ap, arith}
use Rattle.std.specs.Option.{option_eq}
use Rattle.std.proofs.lemmas.Grind.{common_steps}
use Rattle.std.proofs.lemmas.Bool.Decides.{nat_tests}
use Rattle.file_format.specs.declared.slot.Slot.{Slot}
use Rattle.file_format.specs.declared.slot.Slot.TheVariants.{A, B}
use Rattle.file_format.specs.contracts.slot.SlotPartialEq.TheImpl as slot
use Rattle.world_folder.specs.declared.heads.Summary.{Summary}

both : (a b : Bool) → (a && b) ≡ true → (a ≡ true) × (b ≡ true)
both true b is = (refl, is)
both false b is = absurd cc

same_number : (x y : ℕ) → (x == y) ≡ true → x ≡ y
same_number x y is = grind (arith, nat_tests, common_steps)

same_slot : (x y : Slot) → slot.ghosts.eq x y ≡ true → x ≡ y
same_slot A A is = refl
same_slot B B is = refl
same_slot A B is = absurd cc
same_slot B A is = absurd cc

same_option : {A : Type 0} (eq : A → A → Bool) → ((x y : A) → eq x y ≡ true → x ≡ y) → (x y : Option A) → option_eq eq x y ≡ true → x ≡ y
same_option eq same None None is = refl
same_option eq same (Some x) (Some y) is = ap Some (same x y is)
same_option eq same None (Some y) is = absurd cc
same_option eq same (Some x) None is = absurd cc

same_place : (x y : Slot × ℕ) → (slot.ghosts.eq x.0 y.0 && (x.1 == y.1)) ≡ true → x ≡ y
same_place x y is =
    let parts = both (slot.ghosts.eq x.0 y.0) (x.1 == y.1) is in
    λ i. (same_slot x.0 y.0 parts.0 i, same_number x.1 y.1 parts.1 i)

pub alike : (x y : Summary)
    → (option_eq (λ (s t : Slot × ℕ). slot.ghosts.eq s.0 t.0 && (s.1 == t.1)) x.newest y.newest
    && (option_eq (λ (m n : ℕ). m == n) x.log_a y.log_a && option_eq (λ (m n : ℕ). m == n) x.log_b y.log_b)) ≡ true
    → x ≡ y
alike x y is =
    let newest = both _ _ is in
    let logs = both _ _ newest.1 in
    let same_newest = same_option (λ (s t : Slot × ℕ). slot.ghosts.eq s.0 t.0 && (s.1 == t.1)) same_place x.newest y.newest newest.0 in
    let same_a = same_option (λ (m n : ℕ). m == n) same_number x.log_a y.log_a logs.0 in
    let same_b = same_option (λ (m n : ℕ). m == n) same_number x.log_b y.log_b logs.1 in
    λ i. record { newest = same_newest i; log_a = same_a i; log_b = same_b i }
