-- Inside: for the proofs of this crate's private functions.
-- The contents of files as the program holds them.
use Rattle.std.specs.Prelude.{◌≡◌, ◌⊎◌, ◌≤◌, ℕ, ◌||◌, true, List, Option, Some, None, Result, Err}
use Rattle.std.specs.Prelude.{IsErr, if◌then◌else◌}
use Rattle.world_actions.specs.declared.refusal.Refusal.{Refusal}
use Rattle.world_actions.specs.declared.refusal.Refusal.TheVariants.{BadLog, NoImage}
use Rattle.world_actions.specs.World.{IsWorld}
use Rattle.world_ticks.specs.declared.tick.TheConstants.{TICK_MAX}
use Rattle.image_files.specs.Image.{Image, Closed, Bad, Open}
use Rattle.world_ticks.specs.After.{after_actions}
use Rattle.action_log.specs.declared.reader.HeldLog.{HeldLog}
use Rattle.action_log.specs.Segment.{Segment}
use Rattle.action_log.specs.Segment.{actions_of}
use Rattle.recovery.specs.declared.newest.Newest.{Newest as Found}
use Rattle.recovery.specs.Recovery.{Newest, Recovery, is_bad_segment, replayed, tail, ticks_from}

-- an open image is of a tick and a world
abbrev pub IsBoundedImage : Image → Type 0
IsBoundedImage Closed = Unit {0}
IsBoundedImage Bad = ⊥
IsBoundedImage (Open tick words) = (tick ≤ TICK_MAX) × IsWorld words

-- the base of an open header is within its bound
abbrev pub IsNumbered : Option HeldLog → Type 0
IsNumbered None = Unit {0}
IsNumbered (Some log) = log.base ≤ TICK_MAX

-- the newest image
abbrev pub newest_in : Found → Newest
newest_in found = record { slot = found.slot; tick = found.tick; words = found.words.items }

-- the segment is malformed, or an action of its ticks from this tick on is refused
abbrev pub IsRefused : ℕ → Segment → (words : List ℕ) → Type 0
IsRefused tick segment words =
    (is_bad_segment segment ≡ true)
    ⊎ IsErr (after_actions words (actions_of (ticks_from tick segment)))

-- the recovery from an image and two segments, unless one is malformed
abbrev pub followed : Newest → Segment → Segment → Result Recovery Refusal
followed image log_a log_b =
    if is_bad_segment log_a || is_bad_segment log_b then Err BadLog
    else replayed image (tail image.tick log_a log_b)

-- the refusal if there is no image
abbrev pub refused_without : Segment → Segment → Refusal
refused_without log_a log_b =
    if is_bad_segment log_a || is_bad_segment log_b then BadLog else NoImage
