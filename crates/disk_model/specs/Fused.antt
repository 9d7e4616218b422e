-- A disk with a fuse as contracts see it, and the effect of one call of it.
use Rattle.std.specs.Prelude.{◌≡◌, ℕ, zero, suc, ◌+◌, min, Bool, false, Option, Some, None, refl}
use Rattle.std.specs.Prelude.{if◌then◌else◌}
use Rattle.std.specs.Coded.{Coded, code_by, coded×, coded_ℕ, coded_option}
use Rattle.std.proofs.Common.{subst, sym, ◌∙◌}
use Rattle.disk_model.specs.Disk.{last_count, Call, Length, Read, Write, Sync}

-- the disk below, the number of calls that pass before the one that fails, and the number of calls
-- that the fuse failed
pub record Fuse (D : Type 0) : Type 0 where
  pub inner : D
  pub left : Option ℕ
  pub faults : ℕ

-- a fuse is stored as its fields
abbrev pub fuse_code : {D : Type 0} → Coded D → Coded (Fuse D)
fuse_code {D} code =
    code_by (D × (Option ℕ × ℕ)) (coded× code (coded× (coded_option coded_ℕ) coded_ℕ))
    (λ disk. (disk.inner, (disk.left, disk.faults)))
    (λ parts. record { inner = parts.0; left = parts.1.0; faults = parts.1.1 }) (λ _. refl)

-- after a call, the number of calls that pass before the one that fails
abbrev pub counted_down : Option ℕ → Option ℕ
counted_down None = None
counted_down (Some zero) = None
counted_down (Some (suc more)) = Some more

module _ {D : Type 0} where
  -- the next call is the one that fails
  abbrev pub IsDue : Fuse D → Type 0
  IsDue disk = disk.left ≡ Some 0

  -- the number of calls that failed, by the disk below or by the fuse, up to its last value
  abbrev pub fault_count : (D → ℕ) → Fuse D → ℕ
  fault_count faults disk = min (faults disk.inner + disk.faults) last_count

  -- the fuse failed once more
  abbrev pub more_faults : Fuse D → ℕ
  more_faults disk = min (disk.faults + 1) last_count

  -- The call that is due to fail. A write is made below, and counted as failed if the disk below
  -- made it. Any other call isn't made, and is counted.
  abbrev pub Fails : (called : D → Call → Bool → D → Type 0) → (old : Fuse D) → Call
      → (new : Fuse D) → Type 0
  Fails called old (Write at bytes) new =
      (made : Bool) × called old.inner (Write at bytes) made new.inner
      × (new.faults ≡ (if made then more_faults old else old.faults))
  Fails called old other new = (new.inner ≡ old.inner) × (new.faults ≡ more_faults old)

  -- One call of a disk with a fuse. The fuse counts it. If the call is due, it fails. Otherwise the
  -- disk below makes it, and its answer is the answer.
  pub record CallsThrough (called : D → Call → Bool → D → Type 0) (old : Fuse D) (call : Call)
      (succeeded : Bool) (new : Fuse D) : Type 0 where
    pub counts : new.left ≡ counted_down old.left
    pub due : IsDue old → (succeeded ≡ false) × Fails called old call new
    pub passed : ¬ IsDue old → called old.inner call succeeded new.inner × (new.faults ≡ old.faults)

-- what each call of a disk keeps, a call of the disk with a fuse keeps
module _ {D : Type 0} (called : D → Call → Bool → D → Type 0) (P : D → Type 0)
    (keeps : (old new : D) (call : Call) (succeeded : Bool) → called old call succeeded new
    → P old → P new) where
  keeps_by : (left : Option ℕ) (old new : Fuse D) (call : Call) (succeeded : Bool)
      → old.left ≡ left → CallsThrough called old call succeeded new → P old.inner → P new.inner
  keeps_by (Some zero) old new (Write at bytes) succeeded due is =
      let fails = (is.due due).1 in
      keeps old.inner new.inner (Write at bytes) fails.0 fails.1
  keeps_by (Some zero) old new Length succeeded due is = subst P (sym (is.due due).1.0)
  keeps_by (Some zero) old new (Read at n) succeeded due is = subst P (sym (is.due due).1.0)
  keeps_by (Some zero) old new Sync succeeded due is = subst P (sym (is.due due).1.0)
  keeps_by left old new call succeeded isnt is =
      let passed = (is.passed (λ due. let no = sym isnt ∙ due in cc)).0 in
      keeps old.inner new.inner call succeeded passed

  pub keeps_through : (old new : Fuse D) (call : Call) (succeeded : Bool)
      → CallsThrough called old call succeeded new → P old.inner → P new.inner
  keeps_through old new call succeeded = keeps_by old.left old new call succeeded refl
