-- The invariant of a core: its state agrees with its moves and their answers.
use Rattle.std.specs.Prelude.{◌≡◌, ℕ, ◌≤◌, Bool, true, false, option_map}
use Rattle.std.specs.Prelude.{List, ◌++◌, map, replicate}
use Rattle.world_actions.specs.declared.world.TheConstants.{CELLS}
use Rattle.image_files.specs.Images.{Round, ImageFiles, NoneYet, Newest, round_in, newest_in}
use Rattle.image_files.specs.Progress.{newest_tick}
use Rattle.action_log.specs.declared.format.TheConstants.{SEGMENT_TICKS}
use Rattle.action_log.specs.Logs.{LogPlace}
use Rattle.engine.specs.World.{IsInOrder}
use Rattle.engine.specs.Follows.{Follows}
use Rattle.engine.specs.Refusals.{is_down}
use Rattle.world_core.specs.Standing.{Queued, queued_of}
use Rattle.world_core.specs.Past.{Past}
use Rattle.world_core.specs.State.{State, core_disk}

abbrev pub is_known : ImageFiles → Bool
is_known (NoneYet images) = false
is_known (Newest images) = true

-- all that moves and answers say of the keepers is true
abbrev pub AreReported : Past → State → ImageFiles → LogPlace → Type 0
AreReported past state images place = record {
  is_image_known : past.has_image ≡ is_known images;
  start_left : past.standing.start_left ≡ place.left;
  image_down : past.standing.is_image_down ≡ is_down state.images.phase;
  log_down : past.standing.is_log_down ≡ state.log.down;
  round : past.standing.round ≡ option_map (λ (round : Round). round.tick) (round_in images);
  newest : past.standing.newest ≡ newest_tick (newest_in images);
}

-- From zeros, the core follows the ended ticks, with those that are acknowledged. Its running tick,
-- its counts and its queue, which holds the last of the records, are those of the moves.
pub record IsCoreAt (past : Past) (state : State) : Type 0 where
  pub size : ℕ
  pub some_cells : 1 ≤ size
  pub few_cells : size ≤ CELLS
  pub cells_are : state.images.cells ≡ size
  pub order : IsInOrder core_disk state
  pub follows : Follows core_disk state (replicate size 0) past.history.ticks past.acknowledged
  pub open follows use {images, place, has_images, has_log}
  pub running : state.running ≡ past.history.running
  pub since : state.since ≡ past.standing.since
  pub few : state.since ≤ SEGMENT_TICKS
  pub taken : List Queued
  pub records : past.standing.records ≡ taken ++ map queued_of state.queue
  pub reported : AreReported past state images place
