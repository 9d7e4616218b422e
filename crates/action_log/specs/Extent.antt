-- How far the groups go that lead a segment.
use Rattle.std.specs.Prelude.{◌≡◌, ℕ, ◌+◌, ◌<◌, ◌≤◌, ◌↔◌, Bool, true, false, List, ◌∷◌, ◌++◌}
use Rattle.std.specs.Prelude.{length, take, Option, Some, None}
use Rattle.std.specs.List.{flat_map, AllByRecursion}
use Rattle.world_ticks.specs.declared.tick.TheConstants.{TICK_MAX}
use Rattle.file_format.specs.declared.gate.TheConstants.{OPEN_GATE}
use Rattle.file_format.specs.declared.format.Format.{Format}
use Rattle.file_format.specs.Gate.{HasShutGate, HasNoShutGate}
use Rattle.action_log.specs.declared.format.TheConstants.{FIRST_GROUP, HEADER_BYTES}
use Rattle.action_log.specs.declared.format.TheConstants.{SEGMENT_TICKS}
use Rattle.action_log.specs.declared.reader.extent.Extent.{Extent}
use Rattle.action_log.specs.Segment.{Tick, joined, IsGroup, group_bytes, spelled_base, Segment}
use Rattle.action_log.specs.Segment.{IsSegment}

-- an open header, whole groups within the bounds of a segment, and the bytes after them
pub record HasGroups (bytes : List ℕ) (format : Format) (base : ℕ) (groups : List (List Tick))
    (rest : List ℕ) : Type 0 where
  pub are_groups : AllByRecursion (IsGroup format) groups
  pub spelled : bytes
      ≡ OPEN_GATE ∷ (spelled_base format base ++ (flat_map group_bytes groups ++ rest))
  pub long : HEADER_BYTES ≤ length bytes
  pub few : length (joined groups) ≤ SEGMENT_TICKS
  pub numbered : base + length (joined groups) ≤ TICK_MAX

-- there is no open header
abbrev pub HasNoGroups : List ℕ → Type 0
HasNoGroups bytes =
    (format : Format) (base : ℕ) (groups : List (List Tick)) (rest : List ℕ)
    → ¬ HasGroups bytes format base groups rest

-- the leading groups have so many ticks and end at this place, and no further group follows within
-- the bounds of a segment; they are ended if a gate stands there that isn't open
pub record IsExtent (bytes : List ℕ) (groups_end ticks : ℕ) (ended : Bool) : Type 0 where
  pub format : Format
  pub base : ℕ
  pub groups : List (List Tick)
  pub rest : List ℕ
  pub leading : HasGroups bytes format base groups rest
  pub place : groups_end + length rest ≡ length bytes
  pub counted : length (joined groups) ≡ ticks
  pub furthest : (other_format : Format) (other_base : ℕ)
      (other_groups : List (List Tick)) (other_rest : List ℕ)
      → HasGroups bytes other_format other_base other_groups other_rest
      → length rest ≤ length other_rest
  pub shut : ended ≡ true → HasShutGate rest
  pub not_shut : ended ≡ false → HasNoShutGate rest

-- the extent of the first ones of these bytes
abbrev pub IsExtentOfFirst : List ℕ → Extent → Type 0
IsExtentOfFirst bytes extent =
    (count : ℕ) × IsExtent (take count bytes) extent.groups_end extent.ticks extent.ended

-- both have the same reading as a segment
abbrev pub ReadsAlike : List ℕ → List ℕ → Type 0
ReadsAlike one other = (segment : Segment) → IsSegment one segment ↔ IsSegment other segment

-- inside: whole groups that lead bytes, with at most so many ticks, and no further
-- group follows them
pub record AreLeading (format : Format) (most : ℕ) (bytes : List ℕ) (groups : List (List Tick))
    (rest : List ℕ) : Type 0 where
  pub are_groups : AllByRecursion (IsGroup format) groups
  pub parts : bytes ≡ flat_map group_bytes groups ++ rest
  pub few : length (joined groups) ≤ most
  pub last : (group : List Tick) (next : List ℕ) → IsGroup format group
      → rest ≡ group_bytes group ++ next
      → most < length (joined groups) + length group

-- inside: the place up to which groups are counted, and the number of their ticks
abbrev pub counted_to : Option Extent → ℕ × ℕ
counted_to None = (FIRST_GROUP, 0)
counted_to (Some extent) = (extent.groups_end, extent.ticks)
