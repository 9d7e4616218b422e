-- The calls that a reader makes, one after another.
use Rattle.std.proofs.Common.{◌≡◌, ◌⊎◌, inl, inr, ℕ, zero, suc, ◌+◌, ◌≤◌, Bool, refl, subst, arith}
use Rattle.disk_model.specs.Disk.{Call, Length, Read, Write, Sync}
use Rattle.file_readers.specs.Asking.{AsksWithin, AreAsked, OnlyAsked}

asks_wider : (most wider : ℕ) (call : Call) → most ≤ wider → AsksWithin most call → AsksWithin wider call
asks_wider most wider Length le asks = tt
asks_wider most wider (Read at count) le asks = omega arith
asks_wider most wider (Write at bytes) le asks = asks
asks_wider most wider Sync le asks = asks

module _ {S : Type 0} (called : S → Call → Bool → S → Type 0) where
  pub asked_none : (most : ℕ) (state : S) → OnlyAsked called most state state
  asked_none most state = (0, refl)

  pub asked_more : (most : ℕ) (old between new : S) (call : Call) (succeeded : Bool) → OnlyAsked called most old between
      → AsksWithin most call → called between call succeeded new → OnlyAsked called most old new
  asked_more most old between new call succeeded asked within made = (suc asked.0, (between, asked.1, (call, succeeded, within, made)))

  -- one more read, or none
  pub asked_read : (most : ℕ) (old between new : S) (at count : ℕ) → OnlyAsked called most old between → at + count ≤ most
      → (new ≡ between) ⊎ ((succeeded : Bool) × called between (Read at count) succeeded new) → OnlyAsked called most old new
  asked_read most old between new at count asked within (inl same) = subst (λ (s : S). OnlyAsked called most old s) (let back : between ≡ new = cc in back) asked
  asked_read most old between new at count asked within (inr made) = asked_more most old between new (Read at count) made.0 asked within made.1

  -- the length, then one more read or none
  pub asked_first : (most : ℕ) (old len new : S) (known : Bool) (at count : ℕ) → called old Length known len → at + count ≤ most
      → (new ≡ len) ⊎ ((succeeded : Bool) × called len (Read at count) succeeded new) → OnlyAsked called most old new
  asked_first most old len new known at count made = asked_read most old len new at count (asked_more most old old len Length known (asked_none most old) tt made)

  wider : (most further calls : ℕ) (old new : S) → most ≤ further → AreAsked called most calls old new → AreAsked called further calls old new
  wider most further zero old new le asked = asked
  wider most further (suc calls) old new le asked = (asked.0, wider most further calls old asked.0 le asked.1, (asked.2.0, asked.2.1, asks_wider most further asked.2.0 le asked.2.2, asked.2.3))

  pub asked_wider : (most further : ℕ) (old new : S) → most ≤ further → OnlyAsked called most old new → OnlyAsked called further old new
  asked_wider most further old new le asked = (asked.0, wider most further asked.0 old new le asked.1)

  -- the length, or nothing
  pub asked_length : (most : ℕ) (old between new : S) → OnlyAsked called most old between
      → (new ≡ between) ⊎ ((succeeded : Bool) × called between Length succeeded new) → OnlyAsked called most old new
  asked_length most old between new asked (inl same) = subst (λ (s : S). OnlyAsked called most old s) (let back : between ≡ new = cc in back) asked
  asked_length most old between new asked (inr made) = asked_more most old between new Length made.0 asked tt made.1

  -- one more read, or none, and a wider bound
  pub asked_on : (most further : ℕ) (old between new : S) (at count : ℕ) → OnlyAsked called most old between → most ≤ further
      → at + count ≤ further → (new ≡ between) ⊎ ((succeeded : Bool) × called between (Read at count) succeeded new) → OnlyAsked called further old new
  asked_on most further old between new at count asked le within made = asked_read further old between new at count (asked_wider most further old between le asked) within made
