-- The calls of a disk that a reader makes.
use Rattle.std.specs.Prelude.{◌≡◌, ℕ, zero, suc, ◌+◌, ◌*◌, ◌≤◌, min, max, Bool}
use Rattle.disk_model.specs.Disk.{Call, Length, Read, Write, Sync}
use Rattle.disk_model.specs.declared.four_files.FourFiles.{FourFiles}
use Rattle.file_readers.specs.declared.segment.TheConstants.{PIECE_BYTES, PIECE_BYTES_MAX}

-- how far the pieces of a segment go, if so many of its bytes count
abbrev pub furthest_piece : ℕ → ℕ
furthest_piece count = max PIECE_BYTES (min (2 * count) (count + PIECE_BYTES_MAX))

-- the call asks for the length, or for bytes up to this place
abbrev pub AsksWithin : (most : ℕ) → Call → Type 0
AsksWithin most Length = Unit {0}
AsksWithin most (Read at count) = at + count ≤ most
AsksWithin most (Write at bytes) = ⊥
AsksWithin most Sync = ⊥

module _ {S : Type 0} (called : S → Call → Bool → S → Type 0) where
  -- so many such calls lead from the first state to the second
  abbrev pub AreAsked : (most calls : ℕ) → S → S → Type 0
  AreAsked most zero old new = new ≡ old
  AreAsked most (suc calls) old new =
      (between : S) × AreAsked most calls old between
      × ((call : Call) × (succeeded : Bool) × AsksWithin most call
      × called between call succeeded new)

  -- a disk is asked for its length and for bytes up to this place, and for nothing else
  abbrev pub OnlyAsked : (most : ℕ) → S → S → Type 0
  OnlyAsked most old new = (calls : ℕ) × AreAsked most calls old new

  -- each of four files is asked for bytes up to its place
  pub record FilesOnlyAsked (image_a_most image_b_most log_a_most log_b_most : ℕ)
      (old new : FourFiles S) : Type 0 where
    pub image_a : OnlyAsked image_a_most old.image_a new.image_a
    pub image_b : OnlyAsked image_b_most old.image_b new.image_b
    pub log_a : OnlyAsked log_a_most old.log_a new.log_a
    pub log_b : OnlyAsked log_b_most old.log_b new.log_b
