-- The parts of the files that are taken, judged only by their bytes.
use Rattle.std.specs.Prelude.{◌≡◌, ◌⊎◌, ℕ, ◌≤◌, Bool, false, nat_eq, List, [], length, take}
use Rattle.image_files.specs.Image.{Closed, Bad, Open, image_of}
use Rattle.action_log.specs.Segment.{Tick, Segment, ClosedSegment, MalformedSegment, OpenSegment}
use Rattle.action_log.specs.Segment.{IsSegment}
use Rattle.action_log.specs.Extent.{HasNoGroups, IsExtent}
use Rattle.salvage.specs.declared.image_part.ImagePart.{ImagePart}
use Rattle.salvage.specs.declared.image_part.ImagePart.TheVariants as images
use Rattle.salvage.specs.declared.log_part.LogPart.{LogPart}
use Rattle.salvage.specs.declared.log_part.LogPart.TheVariants as logs

-- the bytes that are taken of an image: all of them, or none of a damaged one
abbrev pub kept_image : ImagePart → List ℕ → List ℕ
kept_image images.Dropped bytes = []
kept_image part bytes = bytes

-- an image is taken as it reads
abbrev pub IsImagePart : List ℕ → ImagePart → Type 0
IsImagePart bytes images.Closed = image_of bytes ≡ Closed
IsImagePart bytes (images.Whole tick) = (words : List ℕ) × (image_of bytes ≡ Open tick words)
IsImagePart bytes images.Dropped = image_of bytes ≡ Bad

-- the bytes that are taken of a log file
abbrev pub kept_log : LogPart → List ℕ → List ℕ
kept_log (logs.Cut at base ticks) bytes = take at bytes
kept_log logs.Dropped bytes = []
kept_log part bytes = bytes

-- the place of a cut is within the bytes
abbrev pub FitsIn : LogPart → List ℕ → Type 0
FitsIn (logs.Cut at base ticks) bytes = at ≤ length bytes
FitsIn part bytes = Unit {0}

-- true if ticks are taken that begin after this one
abbrev pub begins_at : ℕ → LogPart → Bool
begins_at tick (logs.Whole base ticks) = nat_eq base tick
begins_at tick (logs.Cut at base ticks) = nat_eq base tick
begins_at tick part = false

-- the reading of the bytes that are taken
abbrev pub segment_of : LogPart → List Tick → Segment
segment_of (logs.Whole base ticks) list = OpenSegment base list
segment_of (logs.Cut at base ticks) list = OpenSegment base list
segment_of part list = ClosedSegment

-- the bytes that are taken read as a segment with so many ticks, or as a closed one
pub record IsKept (bytes : List ℕ) (part : LogPart) : Type 0 where
  pub list : List Tick
  pub reads : IsSegment (kept_log part bytes) (segment_of part list)
  pub fits : FitsIn part bytes

-- A segment that isn't malformed is taken whole. A malformed one is cut after its leading groups:
-- no further whole group follows there. If none leads it, nothing is taken.
abbrev pub IsFormed : List ℕ → LogPart → Type 0
IsFormed bytes logs.Closed = IsSegment bytes ClosedSegment
IsFormed bytes (logs.Whole base ticks) =
    (list : List Tick) × IsSegment bytes (OpenSegment base list) × (length list ≡ ticks)
IsFormed bytes (logs.Cut at base ticks) =
    IsSegment bytes MalformedSegment × (1 ≤ ticks) × (ended : Bool)
    × (extent : IsExtent bytes at ticks ended) × (extent.base ≡ base)
IsFormed bytes logs.Dropped =
    IsSegment bytes MalformedSegment
    × (HasNoGroups bytes ⊎ ((at : ℕ) × (ended : Bool) × IsExtent bytes at 0 ended))
