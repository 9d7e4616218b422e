-- A file in memory as contracts see it, and the effect of its calls.
use Rattle.std.specs.Prelude.{◌≡◌, ◌⊎◌, ℕ, ◌+◌, ◌<◌, ◌≤◌, min, List, Bool, true, false, length}
use Rattle.std.specs.Prelude.{get_or, replicate}
use Rattle.file_format.specs.Number.{IsBytes}
use Rattle.disk_model.specs.Disk.{overwritten, last_count, Call, Write, Sync}

-- the places that a table marks
abbrev pub Marked : List Bool → ℕ → Type 0
Marked table place = get_or table place false ≡ true

-- The content is no shorter than the durable bytes, and has them outside of unsynced writes. There
-- is a mark for each place of the content.
pub record IsInOrder (durable content : List ℕ) (unsynced : List Bool) : Type 0 where
  pub durable_bytes : IsBytes durable
  pub content_bytes : IsBytes content
  pub marks : length unsynced ≡ length content
  pub no_shorter : length durable ≤ length content
  pub agrees : (place : ℕ) → place < length durable → ¬ Marked unsynced place
      → get_or content place 0 ≡ get_or durable place 0

-- the durable bytes, the content that reads give, a mark for each place of it in an unsynced write,
-- and the number of failed calls
pub record FileState : Type 0 where
  pub durable : List ℕ
  pub content : List ℕ
  pub unsynced : List Bool
  pub faults : ℕ
  pub in_order : IsInOrder durable content unsynced

-- the place lies in an unsynced write
abbrev pub IsUnsynced : FileState → ℕ → Type 0
IsUnsynced file place = Marked file.unsynced place

-- a crash may change the byte at this place, or leave none there
abbrev pub IsUncertain : FileState → ℕ → Type 0
IsUncertain file place = IsUnsynced file place ⊎ (length file.durable ≤ place)

-- these bytes are durable, reads give them, and no write is unsynced
pub record IsSynced (bytes : List ℕ) (file : FileState) : Type 0 where
  pub durable : file.durable ≡ bytes
  pub content : file.content ≡ bytes
  pub none_unsynced : (place : ℕ) → ¬ IsUnsynced file place

-- a write that was carried out: the durable bytes stay, and its whole range is marked
pub record Writes (at : ℕ) (bytes : List ℕ) (old new : FileState) : Type 0 where
  pub durable : new.durable ≡ old.durable
  pub content : new.content ≡ overwritten old.content at bytes
  pub unsynced : new.unsynced ≡ overwritten old.unsynced at (replicate (length bytes) true)
  pub faults : new.faults ≡ old.faults

-- a sync that was carried out
pub record Syncs (old new : FileState) : Type 0 where
  pub synced : IsSynced old.content new
  pub faults : new.faults ≡ old.faults

-- the same file after a call that failed
abbrev pub after_fault : FileState → FileState
after_fault file = record file { faults = min (file.faults + 1) last_count }

-- a call that succeeded or failed: a write and a sync change the file, and a failure is counted
abbrev pub Calls : FileState → Call → (succeeded : Bool) → FileState → Type 0
Calls old call false new = new ≡ after_fault old
Calls old (Write at bytes) true new = Writes at bytes old new
Calls old Sync true new = Syncs old new
Calls old other true new = new ≡ old
