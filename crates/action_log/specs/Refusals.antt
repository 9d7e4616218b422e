-- The reasons why no further tick may end.
use Rattle.std.specs.Prelude.{ℕ, Bool, Option, Some, None, nat_le, if◌then◌else◌}
use Rattle.world_actions.specs.declared.refusal.Refusal.{Refusal}
use Rattle.world_actions.specs.declared.refusal.Refusal.TheVariants.{LogDown, TicksEnded}
use Rattle.world_actions.specs.declared.refusal.Refusal.TheVariants.{SegmentFull}
use Rattle.world_ticks.specs.declared.tick.TheConstants.{TICK_MAX}
use Rattle.action_log.specs.declared.format.TheConstants.{SEGMENT_TICKS}

-- the reason why no further tick may end, if there is one; the first line that holds decides
abbrev pub tick_refusal : (down : Bool) → (ended since : ℕ) → Option Refusal
tick_refusal down ended since =
    if down then Some LogDown else
    if nat_le TICK_MAX ended then Some TicksEnded else
    if nat_le SEGMENT_TICKS since then Some SegmentFull else
    None
