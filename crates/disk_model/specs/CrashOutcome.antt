-- The bytes that a crash may leave of a file.
use Rattle.std.specs.Prelude.{◌≡◌, ℕ, ◌<◌, ◌≤◌, Bool, true, false, List, length, get_or, refl}
use Rattle.std.proofs.Common.{ap, arith}
use Rattle.file_format.specs.Number.{IsBytes}
use Rattle.disk_model.specs.Disk.{Call, Length, Read, Write, Sync, HasByte}
use Rattle.disk_model.specs.FileState.{FileState, IsUnsynced, Calls}

-- These are bytes, no fewer than are durable and no more than reads give. At each place below the
-- durable length that no unsynced write covers, they have the durable byte.
pub record IsCrashOutcome (file : FileState) (left : List ℕ) : Type 0 where
  pub are_bytes : IsBytes left
  pub no_shorter : length file.durable ≤ length left
  pub no_longer : length left ≤ length file.content
  pub kept : (place : ℕ) → place < length file.durable → ¬ IsUnsynced file place
      → get_or left place 0 ≡ get_or file.durable place 0

-- a crash may leave the bytes that reads give
pub content_stays : (file : FileState) → IsCrashOutcome file file.content
content_stays file = record {
  are_bytes = file.in_order.content_bytes;
  no_shorter = file.in_order.no_shorter;
  no_longer = omega arith;
  kept = file.in_order.agrees;
}

-- a crash may leave the durable bytes
pub durable_stays : (file : FileState) → IsCrashOutcome file file.durable
durable_stays file = record {
  are_bytes = file.in_order.durable_bytes;
  no_shorter = omega arith;
  no_longer = file.in_order.no_shorter;
  kept = λ place inside synced. refl;
}

abbrev durable_length : FileState → ℕ
durable_length file = length file.durable

-- no call makes fewer bytes durable
pub no_fewer : (old new : FileState) (call : Call) (succeeded : Bool)
    → Calls old call succeeded new → length old.durable ≤ length new.durable
no_fewer old new call false is = omega (arith, ap durable_length is)
no_fewer old new (Write at bytes) true is = omega (arith, ap length is.durable)
no_fewer old new Sync true is =
    omega (arith, ap length is.synced.durable, old.in_order.no_shorter)
no_fewer old new Length true is = omega (arith, ap durable_length is)
no_fewer old new (Read at count) true is = omega (arith, ap durable_length is)

-- no call empties a file
pub calls_keep_byte : (old new : FileState) (call : Call) (succeeded : Bool)
    → Calls old call succeeded new → HasByte (IsCrashOutcome old) → HasByte (IsCrashOutcome new)
calls_keep_byte old new call succeeded is filled left outcome =
    let was = filled old.durable (durable_stays old) in
    omega (arith, was, no_fewer old new call succeeded is, outcome.no_shorter)
