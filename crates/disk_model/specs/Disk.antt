-- The effect of a disk's calls on its file, and on the bytes that a crash may leave of it.
use Rattle.std.specs.Prelude.{◌≡◌, ◌⊎◌, ℕ, ◌+◌, ◌-◌, ◌^◌, ◌≤◌, min, max, Bool, true, false, List}
use Rattle.std.specs.Prelude.{◌++◌, length, take, drop, Result, Ok, Err, IfErr}
use Rattle.std.proofs.Common.{arith}
use Rattle.world_actions.specs.declared.refusal.Refusal.{Refusal}
use Rattle.world_actions.specs.declared.refusal.Refusal.TheVariants.{Device}

-- a list with these items written over it from a place on
abbrev pub overwritten : {A : Type 0} → List A → ℕ → List A → List A
overwritten old at items = take at old ++ items ++ drop (at + length items) old

-- A write of n bytes that isn't known to be whole. Its range has any bytes, and the other places
-- keep theirs. The length is between the old one and the one that a whole write gives.
pub record Torn (at n : ℕ) (old new : List ℕ) : Type 0 where
  pub before : take at new ≡ take at old
  pub after : drop (at + n) new ≡ drop (at + n) old
  pub no_shorter : length old ≤ length new
  pub no_longer : length new ≤ max (length old) (at + n)

-- each new outcome of a crash comes from an old outcome by a step
abbrev pub Follows : (List ℕ → List ℕ → Type 0) → (List ℕ → Type 0) → (List ℕ → Type 0) → Type 0
Follows step old new =
    (left : List ℕ) → new left → (before : List ℕ) × old before × step before left

-- each new outcome of a crash is also an old outcome
abbrev pub Within : (List ℕ → Type 0) → (List ℕ → Type 0) → Type 0
Within old new = (left : List ℕ) → new left → old left

-- a crash can leave nothing other than this file
abbrev pub Only : List ℕ → (List ℕ → Type 0) → Type 0
Only file outcomes = (left : List ℕ) → outcomes left → left ≡ file

-- each outcome of a crash has a byte
abbrev pub HasByte : (List ℕ → Type 0) → Type 0
HasByte outcomes = (left : List ℕ) → outcomes left → 1 ≤ length left

-- the last value of a count of faults
abbrev pub last_count : ℕ
last_count = 2 ^ 64 - 1

pub min-last_count : (faults : ℕ) → min faults last_count ≤ last_count
min-last_count faults = omega arith

-- the count of faults after a call: after a failure it is one greater, or still at its last value
abbrev pub counted : {T : Type 0} → ℕ → Result T Refusal → ℕ
counted faults (Ok value) = faults
counted faults (Err refusal) = min (faults + 1) last_count

-- a call failed between these two counts of faults
abbrev pub Grew : ℕ → ℕ → Type 0
Grew before now = now ≡ min (before + 1) last_count

-- if this is a refusal, it is `Device`
abbrev pub IsDeviceFault : {T : Type 0} → Result T Refusal → Type 0
IsDeviceFault result = IfErr result (λ refusal. refusal ≡ Device)

-- a call of a disk
pub data Call : Type 0 where
  Length : Call
  Read : (at count : ℕ) → Call
  Write : (at : ℕ) (bytes : List ℕ) → Call
  Sync : Call

-- one call was made, and it succeeded or failed
abbrev pub CalledOnce : {S : Type 0} → (S → Call → Bool → S → Type 0) → S → S → Type 0
CalledOnce called old new = (call : Call) × (succeeded : Bool) × called old call succeeded new

-- no call or one call was made
abbrev pub CalledAtMostOnce : {S : Type 0} → (S → Call → Bool → S → Type 0) → S → S → Type 0
CalledAtMostOnce called old new = (new ≡ old) ⊎ CalledOnce called old new

-- at most one call was made, of one of two disks
abbrev pub OneCalledAtMostOnce : {S : Type 0} → (S → Call → Bool → S → Type 0)
    → (one_before one_after other_before other_after : S) → Type 0
OneCalledAtMostOnce called one_before one_after other_before other_after =
    (CalledAtMostOnce called one_before one_after × (other_after ≡ other_before))
    ⊎ ((one_after ≡ one_before) × CalledAtMostOnce called other_before other_after)

-- the count of faults of one of two disks grew, or neither did
abbrev pub FaultsBy : Bool → (one_before one_after other_before other_after : ℕ) → Type 0
FaultsBy true one_before one_after other_before other_after =
    Grew one_before one_after ⊎ Grew other_before other_after
FaultsBy false one_before one_after other_before other_after =
    (one_after ≡ one_before) × (other_after ≡ other_before)
