-- The room for ticks until batches are refused.
use Rattle.std.specs.Prelude.{ℕ, ◌-◌, ◌*◌, ◌/◌, ◌==◌, ◌&&◌, ◌||◌, nat_lt, Bool, Option, Some, None}
use Rattle.std.specs.Prelude.{if◌then◌else◌}
use Rattle.action_log.specs.declared.format.TheConstants.{SEGMENT_TICKS}

-- how many ticks may still end after so many since the last mark or start
abbrev pub room_after : (since : ℕ) → ℕ
room_after since = SEGMENT_TICKS - since

-- how many quarters of the room so many ticks use up
abbrev pub quarters_of : (since : ℕ) → ℕ
quarters_of since = since / 16384

-- the room that is reported: once a quarter more is used up, and images are down or none is left
abbrev pub reported_room : (before since : ℕ) → (images_down : Bool) → Option ℕ
reported_room before since images_down =
    if nat_lt before (quarters_of since) && (images_down || (room_after since == 0))
    then Some (room_after since) else None

-- in how many seconds so much room is used up, if so many ticks ended in so many seconds
abbrev pub seconds_left : (ticks seconds room : ℕ) → Option ℕ
seconds_left ticks seconds room = if ticks == 0 then None else Some (room * seconds / ticks)
