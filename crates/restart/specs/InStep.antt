-- Store, images, log and queue of a world in step with its ticks: before the first image, in a
-- start, and after it.
use Rattle.std.specs.Prelude.{◌≡◌, ◌<◌, ◌≤◌, ℕ, true, false, List, [], ◌∷◌, ◌++◌, length, take}
use Rattle.std.specs.Prelude.{nat_lt, Some, None, Ok}
use Rattle.world_actions.specs.declared.action.Action.{Action}
use Rattle.world_ticks.specs.Tick.{Actions}
use Rattle.world_ticks.specs.After.{after_actions, after_ticks}
use Rattle.capture_core.specs.Content.{Content, Marks, Takes, Covers}
use Rattle.image_files.specs.declared.answer.ImageAnswer.{ImageAnswer}
use Rattle.image_files.specs.Image.{Image}
use Rattle.image_files.specs.Images.{Round, Images, FirstImages, ImageFiles, NoneYet, Newest}
use Rattle.image_files.specs.Images.{round_in, with_round, StepsImages}
use Rattle.action_log.specs.declared.answer.LogAnswer.{LogAnswer}
use Rattle.action_log.specs.declared.record.Record.{Record}
use Rattle.action_log.specs.declared.record.Record.TheVariants as records
use Rattle.action_log.specs.Segment.{Segment, ClosedSegment}
use Rattle.action_log.specs.Logs.{Logs, Start, Journal, InStart, Writing, LogPlace}
use Rattle.action_log.specs.LogSteps.{is_idle, JournalStep}
use Rattle.action_log.specs.Cover.{CoverStep}
use Rattle.recovery.specs.Recovery.{Recovery}
use Rattle.recovery.specs.Sound.{IsSound, IsFresh}
use Rattle.recovery.specs.Start.{IsStarting, FirstFollows}
use Rattle.recovery.specs.Events.{IsKept, acknowledged_opened, acknowledged_after}
use Rattle.recovery.specs.Restart.{Restarts, recovered_images, recovered_start}
use Rattle.restart.specs.Start.{IsBuilt, images_begun}
use Rattle.restart.specs.Rounds.{StoreFollowsImages, WritesFollow, TicksFollow, AllAreTaken}

-- in the start of a fresh world, before its first image is open
pub record IsBeforeFirst (first : List ℕ) (ticks : List (List Action)) (acknowledged : ℕ)
    (images : FirstImages) (start : Start) : Type 0 where
  pub no_ticks : ticks ≡ []
  pub none_acknowledged : acknowledged ≡ 0
  pub follows : FirstFollows first images start
  pub in_work : (round : Round) × (images.round ≡ Some round)

-- in a start, once there is an image; if no round is in work, the newest image is of
-- the start's tick
pub record IsInStart (first : List ℕ) (ticks : List (List Action)) (acknowledged : ℕ)
    (images : Images) (start : Start) : Type 0 where
  pub from : ℕ
  pub starting : IsStarting first ticks acknowledged images from start
  pub caught_up : images.round ≡ None → images.tick ≡ start.tick

-- the phase of the world: nothing is queued in a start, and after it there is an image
abbrev pub HasPhase : (first : List ℕ) → List (List Action) → (acknowledged : ℕ) → ImageFiles
    → Journal → List Record → Type 0
HasPhase first ticks acknowledged (NoneYet images) (InStart start) queue =
    IsBeforeFirst first ticks acknowledged images start × (queue ≡ [])
HasPhase first ticks acknowledged (Newest images) (InStart start) queue =
    IsInStart first ticks acknowledged images start × (queue ≡ [])
HasPhase first ticks acknowledged (NoneYet images) (Writing logs) queue = ⊥
HasPhase first ticks acknowledged (Newest images) (Writing logs) queue =
    IsKept first ticks acknowledged images logs queue

-- these ticks have ended, this many of them are acknowledged, and the store and the keepers'
-- data follow them
pub record InStep (first : List ℕ) (ticks : List (List Action)) (acknowledged : ℕ)
    (content : Content) (images : ImageFiles) (journal : Journal)
    (queue : List Record) : Type 0 where
  pub store : StoreFollowsImages first ticks content images
  pub phase : HasPhase first ticks acknowledged images journal queue

-- a start's log waits until no round is in work
abbrev pub NoneWaitedFor : Journal → ImageFiles → Type 0
NoneWaitedFor (InStart start) images = round_in images ≡ None
NoneWaitedFor (Writing logs) images = Unit {0}

-- ---- its beginning, and the events that keep it

-- The facts that hold between any two events: a start begins them, and each event keeps them.
pub record WorldsGoOn : Type 0 where
  -- A start after a recovery, on a store that was built from the recovered words, keeps the
  -- recovered ticks.
  pub recovery : (first : List ℕ) (ticks : List (List Action)) (acknowledged : ℕ) (r : Recovery)
      (image_a image_b : Image) (log_a log_b : Segment) (content : Content)
      → 1 ≤ length first → Restarts first ticks acknowledged r image_a image_b log_a log_b
      → IsBuilt r.words (nat_lt r.from r.tick) content
      → InStep first (take r.tick ticks) acknowledged content
      (images_begun (nat_lt r.from r.tick) r.tick (Newest (recovered_images r image_a image_b)))
      (InStart (recovered_start r log_a log_b)) []
  -- the start of a fresh world of any first words, of closed segments
  pub fresh : (first : List ℕ) (content : Content) → 1 ≤ length first → IsBuilt first true content
      → InStep first [] 0 content (images_begun true 0 (NoneYet (record { round = None })))
      (InStart
      (record { tick = 0; before_a = ClosedSegment; before_b = ClosedSegment; begun = false })) []
  -- a step of the image keeper; an image that it opens acknowledges
  pub image_step : (first : List ℕ) (ticks : List (List Action)) (acknowledged : ℕ)
      (images : ImageFiles) (journal : Journal) (queue : List Record)
      (answer : ImageAnswer) (next : ImageFiles) (old new : Content)
      → StepsImages Takes (length first) images answer next old new
      → InStep first ticks acknowledged old images journal queue
      → InStep first ticks (acknowledged_opened acknowledged answer) new next journal queue
  -- a step of the log keeper, whose receipt acknowledges
  pub log_step : (first : List ℕ) (ticks : List (List Action)) (acknowledged : ℕ)
      (content : Content) (images : ImageFiles) (place : LogPlace) (queue : List Record)
      (answer : LogAnswer) (next : LogPlace) (left : List Record)
      → 1 ≤ length first → NoneWaitedFor place.journal images
      → JournalStep place queue answer next left
      → InStep first ticks acknowledged content images place.journal queue
      → InStep first ticks (acknowledged_after acknowledged answer) content images next.journal left
  -- a cover of the tick of an open image, whose receipt acknowledges
  pub cover : (first : List ℕ) (ticks : List (List Action)) (acknowledged : ℕ) (content : Content)
      (images : Images) (logs : Logs) (queue : List Record)
      (tick : ℕ) (answer : LogAnswer) (left : List Record)
      → tick ≤ images.tick → CoverStep logs queue tick answer left
      → InStep first ticks acknowledged content (Newest images) (Writing logs) queue
      → InStep first ticks (acknowledged_after acknowledged answer) content
      (Newest images) (Writing logs) left
  -- a tick whose actions were done on the store ends, and is queued
  pub tick : (first : List ℕ) (ticks : List (List Action)) (acknowledged : ℕ) (images : ImageFiles)
      (logs : Logs) (queue : List Record)
      (tick : Actions) (old new : Content)
      → after_ticks first ticks ≡ Ok old.live → after_actions old.live tick.list ≡ Ok new.live
      → new.left ≡ old.left → ((image : List ℕ) → Covers image old → Covers image new)
      → InStep first ticks acknowledged old images (Writing logs) queue
      → (after_ticks first (ticks ++ tick.list ∷ []) ≡ Ok new.live)
      × InStep first (ticks ++ tick.list ∷ []) acknowledged new images (Writing logs)
      (queue ++ records.Tick tick ∷ [])
  -- No round is in work, and a tick ended since the newest image. The store is marked, and the
  -- switch of the mark is queued.
  pub mark : (first : List ℕ) (ticks : List (List Action)) (acknowledged : ℕ) (images : Images)
      (logs : Logs) (queue : List Record) (old new : Content)
      → images.round ≡ None → images.tick < length ticks → after_ticks first ticks ≡ Ok old.live
      → length old.live ≡ length first → Marks old new
      → InStep first ticks acknowledged old (Newest images) (Writing logs) queue
      → InStep first ticks acknowledged new (with_round (length ticks) (Newest images))
      (Writing logs) (queue ++ records.Switch (length ticks) ∷ [])
  -- once nothing waits and no group is in work, all ended ticks are acknowledged
  pub all_acknowledged : (first : List ℕ) (ticks : List (List Action)) (acknowledged : ℕ)
      (content : Content) (images : ImageFiles) (logs : Logs)
      → logs.pending ≡ [] → InStep first ticks acknowledged content images (Writing logs) []
      → InStep first ticks (length ticks) content images (Writing logs) []
  -- Only the store keeps following the images through the writes of an action, and through the end
  -- of a tick. A round with nothing left is whole.
  pub writes : WritesFollow
  pub ticks : TicksFollow
  pub all_taken : AllAreTaken

-- ---- a world at rest

-- These ticks lead to these words, and the keepers' data follow them. All ticks are in the newest
-- image, no round and no job is in work, and nothing is queued.
pub record IsSettled (first : List ℕ) (ticks : List (List Action)) (words : List ℕ)
    (images : Images) (logs : Logs) : Type 0 where
  pub acknowledged : ℕ
  pub kept : IsKept first ticks acknowledged images logs []
  pub world : after_ticks first ticks ≡ Ok words
  pub none : images.round ≡ None
  pub tick : images.tick ≡ length ticks
  pub image : images.words ≡ words
  pub idle : is_idle logs

-- ---- its consequences

-- before there is an image the files are those of a fresh world, and afterwards they are sound
abbrev pub IsSafe : ImageFiles → (image_a image_b log_a log_b : List ℕ → Type 0) → (first : List ℕ)
    → List (List Action) → (acknowledged : ℕ) → Type 0
IsSafe (NoneYet images) image_a image_b log_a log_b first ticks acknowledged =
    IsFresh image_a image_b log_a log_b first × (ticks ≡ []) × (acknowledged ≡ 0)
IsSafe (Newest images) image_a image_b log_a log_b first ticks acknowledged =
    IsSound image_a image_b log_a log_b first ticks acknowledged
