-- The refusals of an engine: the first line that holds.
use Rattle.std.specs.Prelude.{◌≡◌, ◌<◌, ℕ, List, [], length, Bool, true, false, not, nat_eq, nat_lt}
use Rattle.std.specs.Prelude.{nat_le, Option, Some, None, if◌then◌else◌}
use Rattle.world_actions.specs.declared.action.Action.{Action}
use Rattle.world_actions.specs.declared.refusal.Refusal.{Refusal}
use Rattle.world_actions.specs.declared.refusal.Refusal.TheVariants.{Starting, LogDown, ImageDown}
use Rattle.world_actions.specs.declared.refusal.Refusal.TheVariants.{OpenTick, Busy, NothingNew}
use Rattle.world_actions.specs.declared.refusal.Refusal.TheVariants.{QueueFull, Uncovered}
use Rattle.image_files.specs.declared.phase.Phase.{Phase}
use Rattle.image_files.specs.declared.phase.Phase.TheVariants.{Idle, Down}
use Rattle.image_files.specs.Progress.{newest_tick}
use Rattle.action_log.specs.Refusals.{tick_refusal as log_tick_refusal}
use Rattle.restart.specs.declared.start.TheConstants.{QUEUE_RECORDS}
use Rattle.engine.specs.World.{World}

-- a call of the image keeper failed
abbrev pub is_down : Phase → Bool
is_down Down = true
is_down phase = false

-- a round is in work, or was when a call failed
abbrev pub is_in_round : Phase → Bool
is_in_round Idle = false
is_in_round phase = true

-- the refusal of an action or of the tick's end, if one holds
abbrev pub tick_refusal : (is_starting is_log_down : Bool) → (ended since : ℕ) → Option Refusal
tick_refusal is_starting is_log_down ended since =
    if is_starting then Some Starting else log_tick_refusal is_log_down ended since

-- the refusal of a mark, if one holds
abbrev pub mark_refusal : (is_starting is_log_down is_image_down is_round_open : Bool)
    → (ended newest queued : ℕ) → (running : List Action) → Option Refusal
mark_refusal is_starting is_log_down is_image_down is_round_open ended newest queued running =
    if is_starting then Some Starting else
    if is_log_down then Some LogDown else
    if is_image_down then Some ImageDown else
    if not (nat_eq (length running) 0) then Some OpenTick else
    if is_round_open then Some Busy else
    if nat_eq ended newest then Some NothingNew else
    if nat_le QUEUE_RECORDS queued then Some QueueFull else
    None

-- the refusal of a cover, if one holds
abbrev pub cover_refusal : (is_starting is_log_down : Bool) → (newest tick : ℕ) → Option Refusal
cover_refusal is_starting is_log_down newest tick =
    if is_starting then Some Starting else
    if is_log_down then Some LogDown else
    if nat_lt newest tick then Some Uncovered else
    None

-- these of a world
abbrev pub tick_refusal_of : {D : Type 0} → World D → Option Refusal
tick_refusal_of world = tick_refusal world.log.starting world.log.down world.ended world.since

abbrev pub mark_refusal_of : {D : Type 0} → World D → Option Refusal
mark_refusal_of world =
    mark_refusal world.log.starting world.log.down (is_down world.images.phase)
    (is_in_round world.images.phase) world.ended (newest_tick world.images.newest)
    (length world.queue) world.running

abbrev pub cover_refusal_of : {D : Type 0} → World D → (tick : ℕ) → Option Refusal
cover_refusal_of world tick =
    cover_refusal world.log.starting world.log.down (newest_tick world.images.newest) tick

-- no refusal of a mark holds
pub record MayMark {D : Type 0} (world : World D) : Type 0 where
  pub started : world.log.starting ≡ false
  pub up : world.log.down ≡ false
  pub running : world.running ≡ []
  pub idle : world.images.phase ≡ Idle
  pub news : (world.ended ≡ newest_tick world.images.newest) → ⊥
  pub room : length world.queue < QUEUE_RECORDS
