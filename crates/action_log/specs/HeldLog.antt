-- A segment by its header, whose ticks are in the bytes after it.
use Rattle.std.specs.Prelude.{◌≡◌, ℕ, ◌+◌, ◌-◌, ◌≤◌, ◌||◌, nat_lt, min, List, [], ◌∷◌, ◌++◌, length}
use Rattle.std.specs.Prelude.{drop, Option, Some, None, IsOk, IsErr, if◌then◌else◌}
use Rattle.std.specs.List.{flat_map}
use Rattle.world_ticks.specs.After.{after_actions}
use Rattle.world_ticks.specs.declared.tick.TheConstants.{TICK_MAX}
use Rattle.file_format.specs.Format.{marked_in}
use Rattle.action_log.specs.declared.format.TheConstants.{FIRST_GROUP, SEGMENT_TICKS}
use Rattle.action_log.specs.declared.reader.HeldLog.{HeldLog}
use Rattle.action_log.specs.declared.reader.ticks.Counts.{Counts}
use Rattle.action_log.specs.Segment.{Tick, joined, group_bytes, Segment, ClosedSegment}
use Rattle.action_log.specs.Segment.{MalformedSegment, OpenSegment, IsSegment, IsOpenSegment}
use Rattle.action_log.specs.Segment.{actions_of}
use Rattle.action_log.specs.Reading.{groups_of, ticks_of}

-- the number of ticks that a segment may have after its base
abbrev pub ticks_most : ℕ → ℕ
ticks_most base = min SEGMENT_TICKS (TICK_MAX - base)

-- an open segment with the ticks that are read after its header, or a malformed one if they are
-- none, too many, or have too great numbers
abbrev pub within_bounds : ℕ → Option (List Tick) → Segment
within_bounds base None = MalformedSegment
within_bounds base (Some ticks) =
    if nat_lt SEGMENT_TICKS (length ticks) || nat_lt TICK_MAX (base + length ticks)
    then MalformedSegment else OpenSegment base ticks

-- the reading of a segment, from the ticks in its bytes
abbrev pub segment_of_held : HeldLog → Segment
segment_of_held held = within_bounds held.base (ticks_of held.format held.groups.now)

-- the reading of a segment, from its header and the bytes after it
abbrev pub segment_held : Option HeldLog → Segment
segment_held None = ClosedSegment
segment_held (Some held) = segment_of_held held

-- the mark of these bytes has a base within its bound, and the groups are those after it
pub record AreHeld (bytes : List ℕ) (held : HeldLog) : Type 0 where
  pub marked : marked_in bytes ≡ Some (held.format, held.base)
  pub numbered : held.base ≤ TICK_MAX
  pub behind : held.groups.now ≡ drop FIRST_GROUP bytes

-- the ticks of an open segment are in these bytes
abbrev pub IsHeld : List ℕ → Option HeldLog → Type 0
IsHeld bytes None = Unit {0}
IsHeld bytes (Some held) = AreHeld bytes held

-- the segment is open, with so many groups, ticks and actions
pub record AreCounted (held : HeldLog) (counts : Counts) : Type 0 where
  pub groups : List (List Tick)
  pub read : groups_of held.format held.groups.now ≡ Some groups
  pub opened : segment_of_held held ≡ OpenSegment held.base (joined groups)
  pub groups_are : length groups ≡ counts.groups
  pub ticks_are : length (joined groups) ≡ counts.ticks
  pub actions_are : length (actions_of (joined groups)) ≡ counts.actions

-- the bytes are an open segment with this header, and with so many groups, ticks and actions
pub record IsJudgedOpen (bytes : List ℕ) (held : HeldLog) (counts : Counts) : Type 0 where
  pub held_in : AreHeld bytes held
  pub ticks : List Tick
  pub segment : IsOpenSegment bytes held.base ticks
  pub format_is : segment.format ≡ held.format
  pub groups_are : length segment.groups ≡ counts.groups
  pub ticks_are : length ticks ≡ counts.ticks
  pub actions_are : length (actions_of ticks) ≡ counts.actions

-- the judgement of a segment that isn't malformed is true
abbrev pub IsJudged : List ℕ → Option (HeldLog × Counts) → Type 0
IsJudged bytes None = IsSegment bytes ClosedSegment
IsJudged bytes (Some judged) = IsJudgedOpen bytes judged.0 judged.1

-- The groups before one of them are accepted, and not that one too. They end at this place of the
-- segment, and have so many ticks.
pub record IsRefusedAt (groups : List (List Tick)) (words : List ℕ) (place ticks : ℕ)
    : Type 0 where
  pub kept : List (List Tick)
  pub group : List Tick
  pub later : List (List Tick)
  pub split : groups ≡ kept ++ group ∷ later
  pub accepted : IsOk (after_actions words (actions_of (joined kept)))
  pub refused : IsErr (after_actions words (actions_of (joined (kept ++ group ∷ []))))
  pub place_is : place ≡ FIRST_GROUP + length (flat_map group_bytes kept)
  pub ticks_is : ticks ≡ length (joined kept)
