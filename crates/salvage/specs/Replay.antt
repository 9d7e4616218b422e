-- The part of a segment that is accepted again.
use Rattle.std.specs.Prelude.{◌≡◌, ◌⊎◌, ℕ, zero, suc, List, IsOk}
use Rattle.action_log.specs.Segment.{Tick, OpenSegment, IsSegment, IsOpenSegment}
use Rattle.action_log.specs.HeldLog.{IsRefusedAt}
use Rattle.recovery.specs.Recovery.{words_after}
use Rattle.salvage.specs.declared.log_part.LogPart.{LogPart}
use Rattle.salvage.specs.declared.log_part.LogPart.TheVariants as logs
use Rattle.salvage.specs.Parts.{kept_log}

-- a cut at this place with so many ticks, or nothing if it has none
abbrev pub part_before : (base at ticks : ℕ) → LogPart
part_before base at zero = logs.Dropped
part_before base at (suc ticks) = logs.Cut at base (suc ticks)

-- The groups before the first one with a refused action are taken. The words are those of the world
-- at the segment's base.
pub record IsRefused (base : ℕ) (words bytes : List ℕ) (part : LogPart) : Type 0 where
  pub list : List Tick
  pub segment : IsOpenSegment bytes base list
  pub at : ℕ
  pub ticks : ℕ
  pub refused : IsRefusedAt segment.groups words at ticks
  pub part_is : part ≡ part_before base at ticks

-- The part stays, except if it begins at the world's tick and an action of it is refused.
abbrev pub IsReplayed : (tick : ℕ) → (words bytes : List ℕ) → (formed part : LogPart) → Type 0
IsReplayed tick words bytes formed part =
    ((part ≡ formed)
    × ((list : List Tick) → IsSegment (kept_log formed bytes) (OpenSegment tick list)
    → IsOk (words_after words list)))
    ⊎ IsRefused tick words (kept_log formed bytes) part
