-- The records that wait for the log, and the effect of each event on the keepers' data.
use Rattle.std.specs.Prelude.{◌≡◌, ◌⊎◌, ℕ, ◌+◌, ◌<◌, ◌≤◌, List, [], ◌∷◌, ◌++◌, length, drop, max}
use Rattle.std.specs.Prelude.{Option, Some, None, Ok}
use Rattle.world_actions.specs.declared.action.Action.{Action}
use Rattle.action_log.specs.declared.record.Record.{Record}
use Rattle.action_log.specs.declared.record.Record.TheVariants as records
use Rattle.action_log.specs.declared.answer.LogAnswer.{LogAnswer}
use Rattle.action_log.specs.declared.answer.LogAnswer.TheVariants as log_answer
use Rattle.world_ticks.specs.Tick.{Actions}
use Rattle.action_log.specs.Logs.{Logs, started, switched_to, Start, InStart, Writing, LogPlace}
use Rattle.action_log.specs.LogSteps.{is_idle, LogsStep, StartStep}
use Rattle.action_log.specs.Cover.{CoverStep}
use Rattle.image_files.specs.declared.answer.ImageAnswer.{ImageAnswer}
use Rattle.image_files.specs.declared.answer.ImageAnswer.TheVariants as image_answer
use Rattle.image_files.specs.Images.{Round, Images, FirstImages, ImageFiles, NoneYet, Newest}
use Rattle.image_files.specs.Images.{round_in, with_round, with_opened, StepsImages}
use Rattle.capture_core.specs.declared.taker.Taken.{Taken}
use Rattle.world_ticks.specs.After.{after_actions, after_ticks}
use Rattle.recovery.specs.Sound.{IsWorldAt}
use Rattle.recovery.specs.Start.{IsStarting, IsFirstRound, FirstFollows}
use Rattle.recovery.specs.Follow.{IsRoundOf, ImagesFollow, LogsFollow, FollowMarks}

-- the ticks that wait, in order
abbrev pub ticks_in : List Record → List (List Action)
ticks_in [] = []
ticks_in (records.Tick tick ∷ queue) = tick.list ∷ ticks_in queue
ticks_in (records.Switch tick ∷ queue) = ticks_in queue

-- the ticks of the switches that wait, in order
abbrev pub switches_in : List Record → List ℕ
switches_in [] = []
switches_in (records.Tick tick ∷ queue) = switches_in queue
switches_in (records.Switch tick ∷ queue) = tick ∷ switches_in queue

-- the switch in work, as if it were in front of the queue, and the queue
abbrev pub with_work : Option ℕ → List Record → List Record
with_work None queue = queue
with_work (Some tick) queue = records.Switch tick ∷ queue

-- after this many ticks, each switch has the number of the ticks before it
abbrev pub AreNumbered : ℕ → List Record → Type 0
AreNumbered taken [] = Unit {0}
AreNumbered taken (records.Tick tick ∷ queue) = AreNumbered (taken + 1) queue
AreNumbered taken (records.Switch tick ∷ queue) = (tick ≡ taken) × AreNumbered taken queue

-- a switch comes first
abbrev pub IsSwitchFirst : List Record → Type 0
IsSwitchFirst (records.Switch tick ∷ queue) = Unit {0}
IsSwitchFirst queue = ⊥

-- Either the segment and the group in work have all ticks up to this one. Or no group is in work,
-- the newest image has the ticks that the segment lacks, and a switch comes next.
abbrev pub HasUpTo : Logs → (taken newest : ℕ) → List Record → Type 0
HasUpTo logs taken newest queue =
    (logs.base + length (logs.kept ++ logs.pending) ≡ taken)
    ⊎ ((logs.pending ≡ []) × (logs.base + length logs.kept ≤ taken)
    × (taken ≤ newest) × IsSwitchFirst queue)

-- all ended ticks were accepted, and the images follow them
pub record AreAccepted (first : List ℕ) (ticks : List (List Action))
    (images : Images) : Type 0 where
  pub some_cells : 1 ≤ length first
  pub last : List ℕ
  pub accepted : after_ticks first ticks ≡ Ok last
  pub images_follow : ImagesFollow first ticks images

-- the queue has the records that the log has still to take
pub record AreQueued (ticks : List (List Action)) (newest : ℕ) (logs : Logs)
    (queue : List Record) : Type 0 where
  pub taken : ℕ
  pub some_taken : taken ≤ length ticks
  pub left : drop taken ticks ≡ ticks_in queue
  pub numbered : AreNumbered taken (with_work logs.switch queue)
  pub has : HasUpTo logs taken newest (with_work logs.switch queue)

-- The facts that hold between any two events after a start. All ended ticks were accepted.
-- The data of both keepers follow them and one another. The queue has the records that the
-- log has still to take.
pub record IsKept (first : List ℕ) (ticks : List (List Action)) (acknowledged : ℕ) (images : Images)
    (logs : Logs) (queue : List Record) : Type 0 where
  pub worlds : AreAccepted first ticks images
  pub open worlds use *
  pub logs_follow : LogsFollow ticks acknowledged images.tick logs
  pub follow_marks : FollowMarks (switches_in queue) images logs
  pub queued : AreQueued ticks images.tick logs queue
  pub open queued use *

-- ---- the events

-- the acknowledged count after a step of the image keeper: the tick of an opened image,
-- if it is greater
abbrev pub acknowledged_opened : ℕ → ImageAnswer → ℕ
acknowledged_opened acknowledged (image_answer.Opened tick) = max acknowledged tick
acknowledged_opened acknowledged answer = acknowledged

-- the acknowledged count after a step of the log keeper: the tick of a receipt, if it is greater
abbrev pub acknowledged_after : ℕ → LogAnswer → ℕ
acknowledged_after acknowledged (log_answer.Acked tick) = max acknowledged tick
acknowledged_after acknowledged answer = acknowledged

-- a receipt's tick is the number of ended ticks without those that still wait
abbrev pub ReceiptIs : LogAnswer → (ticks : List (List Action)) → (left : List Record) → Type 0
ReceiptIs (log_answer.Acked tick) ticks left = tick + length (ticks_in left) ≡ length ticks
ReceiptIs answer ticks left = Unit {0}

-- Each event keeps these facts.
pub record EventsKeep {S : Type 0} (took : S → Option Taken → S → Type 0) : Type 0 where
  -- a tick ends whose actions are all accepted, and is queued
  pub tick_ends : (first : List ℕ) (ticks : List (List Action)) (acknowledged : ℕ) (images : Images)
      (logs : Logs) (queue : List Record)
      (kept : IsKept first ticks acknowledged images logs queue) (tick : Actions) (next : List ℕ)
      → after_actions kept.last tick.list ≡ Ok next
      → IsKept first (ticks ++ tick.list ∷ []) acknowledged images logs
      (queue ++ records.Tick tick ∷ [])
  -- No round is in work, and a tick ended since the newest image. A mark at the number of ended
  -- ticks begins a round, and queues its switch.
  pub mark : (first : List ℕ) (ticks : List (List Action)) (acknowledged : ℕ) (images next : Images)
      (logs : Logs) (queue : List Record)
      → IsKept first ticks acknowledged images logs queue → images.round ≡ None
      → images.tick < length ticks
      → with_round (length ticks) (Newest images) ≡ Newest next
      → IsKept first ticks acknowledged next logs (queue ++ records.Switch (length ticks) ∷ [])
  -- a step of the image keeper, whose round is the world after its tick once all cells are taken
  pub image_step : (first : List ℕ) (ticks : List (List Action)) (acknowledged : ℕ)
      (images : Images) (logs : Logs) (queue : List Record)
      (answer : ImageAnswer) (next : ImageFiles) (old new : S)
      → IsKept first ticks acknowledged images logs queue
      → StepsImages took (length first) (Newest images) answer next old new
      → IsRoundOf first ticks images.tick (round_in next)
      → (after : Images) × (next ≡ Newest after)
      × IsKept first ticks (acknowledged_opened acknowledged answer) after logs queue
  -- a step of the log keeper
  pub log_step : (first : List ℕ) (ticks : List (List Action)) (acknowledged : ℕ) (images : Images)
      (logs : Logs) (queue : List Record)
      (answer : LogAnswer) (next : Logs) (left : List Record)
      → IsKept first ticks acknowledged images logs queue → LogsStep logs queue answer next left
      → IsKept first ticks (acknowledged_after acknowledged answer) images next left
  -- a cover of a tick whose image was opened
  pub cover : (first : List ℕ) (ticks : List (List Action)) (acknowledged : ℕ) (images : Images)
      (logs : Logs) (queue : List Record)
      (tick : ℕ) (answer : LogAnswer) (left : List Record)
      → IsKept first ticks acknowledged images logs queue → tick ≤ images.tick
      → CoverStep logs queue tick answer left
      → IsKept first ticks (acknowledged_after acknowledged answer) images logs left
  -- the receipt of each step is exact, and the receipt of each cover too
  pub receipt : (first : List ℕ) (ticks : List (List Action)) (acknowledged : ℕ) (images : Images)
      (logs : Logs) (queue : List Record)
      (answer : LogAnswer) (next : Logs) (left : List Record)
      → IsKept first ticks acknowledged images logs queue → LogsStep logs queue answer next left
      → ReceiptIs answer ticks left
  pub cover_receipt : (first : List ℕ) (ticks : List (List Action)) (acknowledged : ℕ)
      (images : Images) (logs : Logs) (queue : List Record)
      (tick : ℕ) (answer : LogAnswer) (left : List Record)
      → IsKept first ticks acknowledged images logs queue → CoverStep logs queue tick answer left
      → ReceiptIs answer ticks left

-- The same events as whole ones, for callers that know only the results of a keeper's steps.
pub record WholeEventsKeep : Type 0 where
  -- the words taken of the round in work are these
  pub taken : (first : List ℕ) (ticks : List (List Action)) (acknowledged : ℕ) (images : Images)
      (logs : Logs) (queue : List Record) (round : Round) (words : List ℕ)
      → IsKept first ticks acknowledged images logs queue → images.round ≡ Some round
      → (length words ≡ length first → IsWorldAt first ticks round.tick words)
      → IsKept first ticks acknowledged
      (record images { round = Some (record round { taken = words }) }) logs queue
  -- the round in work, whose words are all taken, is opened
  pub opened : (first : List ℕ) (ticks : List (List Action)) (acknowledged : ℕ)
      (images next : Images) (logs : Logs) (queue : List Record) (round : Round)
      → IsKept first ticks acknowledged images logs queue → images.round ≡ Some round
      → length round.taken ≡ length first → with_opened round (Newest images) ≡ Newest next
      → IsKept first ticks (max acknowledged round.tick) next logs queue
  -- with no job in work, the tick that comes first is written in its own group
  pub written : (first : List ℕ) (ticks : List (List Action)) (acknowledged : ℕ) (images : Images)
      (logs : Logs) (tick : Actions) (queue : List Record)
      → IsKept first ticks acknowledged images logs (records.Tick tick ∷ queue) → is_idle logs
      → IsKept first ticks acknowledged images
      (record logs { kept = logs.kept ++ tick.list ∷ [] }) queue
  -- with no job in work, the switch that comes first is taken
  pub switch : (first : List ℕ) (ticks : List (List Action)) (acknowledged : ℕ) (images : Images)
      (logs : Logs) (tick : ℕ) (queue : List Record)
      → IsKept first ticks acknowledged images logs (records.Switch tick ∷ queue) → is_idle logs
      → IsKept first ticks acknowledged images (record logs { switch = Some tick }) queue
  -- the switch in work is done
  pub switched : (first : List ℕ) (ticks : List (List Action)) (acknowledged : ℕ) (images : Images)
      (logs : Logs) (tick : ℕ) (queue : List Record)
      → IsKept first ticks acknowledged images logs queue → logs.switch ≡ Some tick
      → IsKept first ticks acknowledged images (switched_to logs tick) queue

-- ---- the events of a start

-- Each event of a start keeps the premises of `law_of_start`.
pub record StartEventsKeep {S : Type 0} (took : S → Option Taken → S → Type 0) : Type 0 where
  -- if the log was ahead of the image, the round of the recovered tick begins
  pub round_begins : (first : List ℕ) (ticks : List (List Action)) (acknowledged : ℕ)
      (images next : Images) (from : ℕ) (start : Start)
      → 1 ≤ length first → IsStarting first ticks acknowledged images from start
      → images.tick < start.tick
      → with_round start.tick (Newest images) ≡ Newest next
      → IsStarting first ticks acknowledged next from start
  -- a step of the image keeper
  pub image_step : (first : List ℕ) (ticks : List (List Action)) (acknowledged : ℕ)
      (images : Images) (from : ℕ) (start : Start)
      (answer : ImageAnswer) (next : ImageFiles) (old new : S)
      → IsStarting first ticks acknowledged images from start
      → StepsImages took (length first) (Newest images) answer next old new
      → IsRoundOf first ticks images.tick (round_in next)
      → (after : Images) × (next ≡ Newest after)
      × IsStarting first ticks (acknowledged_opened acknowledged answer) after from start
  -- A step of the log keeper, once the newest image is of the recovered tick. The start continues,
  -- or it ends with a segment that begins at the recovered tick.
  pub log_step : (first : List ℕ) (ticks : List (List Action)) (acknowledged : ℕ) (images : Images)
      (from : ℕ) (start : Start)
      (left : ℕ) (answer : LogAnswer) (next : LogPlace)
      → 1 ≤ length first → IsStarting first ticks acknowledged images from start
      → images.tick ≡ start.tick → images.round ≡ None
      → StartStep start left answer next
      → ((after : Start) × (next.journal ≡ InStart after)
      × IsStarting first ticks acknowledged images from after)
      ⊎ ((next.journal ≡ Writing (started start.tick))
      × IsKept first ticks acknowledged images (started start.tick) [])
  -- A step of the image keeper in a fresh world's start. Its round is of the first world at tick 0
  -- once all cells are taken. Until the image is opened no segment is touched. Then the start
  -- continues as after a recovery at tick 0.
  pub first_image_step : (first : List ℕ) (images : FirstImages) (start : Start)
      (answer : ImageAnswer) (next : ImageFiles) (old new : S)
      → FirstFollows first images start
      → StepsImages took (length first) (NoneYet images) answer next old new
      → IsFirstRound first (round_in next)
      → ((after : FirstImages) × (next ≡ NoneYet after) × FirstFollows first after start)
      ⊎ ((after : Images) × (next ≡ Newest after) × (after.tick ≡ 0) × (after.round ≡ None)
      × IsStarting first [] (acknowledged_opened 0 answer) after 0 start)
