-- The relation of the two keepers' data to the ticks that have ended, and the law that makes
-- their files sound.
use Rattle.std.specs.Prelude.{◌≡◌, ℕ, ◌+◌, ◌<◌, ◌≤◌, List, [], ◌∷◌, ◌++◌, ◌⊎◌, length, take, drop}
use Rattle.std.specs.Prelude.{Option, Some, None, IfSome, Ok}
use Rattle.world_actions.specs.declared.action.Action.{Action}
use Rattle.world_ticks.specs.After.{after_ticks}
use Rattle.image_files.specs.Images.{Round, Images, ImagesAre}
use Rattle.action_log.specs.Segment.{Segment, ClosedSegment, MalformedSegment, OpenSegment}
use Rattle.action_log.specs.Logs.{Logs, LogsAre}
use Rattle.recovery.specs.Sound.{IsWorldAt, HoldsWorld, IsSound}

-- these ticks are the first ones that ended after this tick
pub record FollowsFrom (ticks : List (List Action)) (base : ℕ)
    (some : List (List Action)) : Type 0 where
  pub ended : base + length some ≤ length ticks
  pub are : some ≡ take (length some) (drop base ticks)

-- the round is of a later tick than the newest image, and its words are the world after its tick
-- once all are taken
abbrev pub IsRoundOf : List ℕ → List (List Action) → ℕ → Option Round → Type 0
IsRoundOf first ticks newest None = Unit {0}
IsRoundOf first ticks newest (Some round) =
    (newest < round.tick)
    × (length round.taken ≡ length first → IsWorldAt first ticks round.tick round.taken)

-- the newest image, the other image and the round in work are worlds after ticks that have ended
pub record ImagesFollow (first : List ℕ) (ticks : List (List Action))
    (images : Images) : Type 0 where
  pub newest : IsWorldAt first ticks images.tick images.words
  pub before : HoldsWorld first ticks images.tick images.before
  pub round : IsRoundOf first ticks images.tick images.round

-- a segment that ends at this tick leads to the next one's base: no tick is between, or those
-- between are in the newest image
abbrev pub Reaches : (end base newest : ℕ) → Type 0
Reaches end base newest = (end ≡ base) ⊎ ((end ≤ base) × (base ≤ newest))

-- the other segment is closed, or leads to the current one
abbrev pub LeadsTo : (ticks : List (List Action)) (newest base : ℕ) → Segment → Type 0
LeadsTo ticks newest base ClosedSegment = Unit {0}
LeadsTo ticks newest base MalformedSegment = ⊥
LeadsTo ticks newest base (OpenSegment earlier before) =
    (earlier < base) × FollowsFrom ticks earlier before
    × Reaches (earlier + length before) base newest

-- The ticks of both segments are those that have ended. All acknowledged ones are kept or in the
-- newest image. If a switch is in work, no group is, and the current segment leads to the switch.
pub record LogsFollow (ticks : List (List Action)) (acknowledged newest : ℕ)
    (logs : Logs) : Type 0 where
  pub taken : FollowsFrom ticks logs.base (logs.kept ++ logs.pending)
  pub acknowledges : (acknowledged ≤ logs.base + length logs.kept) ⊎ (acknowledged ≤ newest)
  pub before : LeadsTo ticks newest logs.base logs.before
  pub switch : IfSome logs.switch (λ tick. (logs.base < tick) × (logs.pending ≡ [])
      × Reaches (logs.base + length logs.kept) tick newest)

-- the tick of the round in work, if there is one
abbrev pub round_tick : Option Round → List ℕ
round_tick None = []
round_tick (Some round) = round.tick ∷ []

-- the base of an open segment
abbrev pub base_in : Segment → List ℕ
base_in (OpenSegment base ticks) = base ∷ []
base_in segment = []

-- the switch in work, and those that come later
abbrev pub coming : Option ℕ → List ℕ → List ℕ
coming None later = later
coming (Some tick) later = tick ∷ later

-- each of these numbers is greater than the one before it, and the first is greater than this one
abbrev pub RiseFrom : ℕ → List ℕ → Type 0
RiseFrom low [] = Unit {0}
RiseFrom low (tick ∷ ticks) = (low < tick) × RiseFrom tick ticks

-- the first of these numbers isn't below this one
abbrev pub BeginFrom : ℕ → List ℕ → Type 0
BeginFrom low [] = Unit {0}
BeginFrom low (tick ∷ ticks) = low ≤ tick

-- The bases are those of the segments, and those of the switches to come. They rise from the
-- current segment's base on. The last of them are the ticks of the newest image and of the round in
-- work. No switch comes before a tick that the current segment has.
pub record FollowMarks (later : List ℕ) (images : Images) (logs : Logs) : Type 0 where
  pub earlier : List ℕ
  pub bases : base_in logs.before ++ logs.base ∷ coming logs.switch later
      ≡ earlier ++ images.tick ∷ round_tick images.round
  pub rising : RiseFrom logs.base (coming logs.switch later)
  pub in_order : BeginFrom (logs.base + length (logs.kept ++ logs.pending))
      (coming logs.switch later)

-- All ended ticks were accepted, and the keepers' data follow them and one another. Then four files
-- that are as the keepers claim are sound.
abbrev pub LawOfRecovery : (image_a image_b log_a log_b : List ℕ → Type 0) → Type 0
LawOfRecovery image_a image_b log_a log_b =
    (first : List ℕ) (ticks : List (List Action)) (acknowledged : ℕ) (last : List ℕ)
    (images : Images) (logs : Logs) (later : List ℕ)
    → after_ticks first ticks ≡ Ok last → ImagesFollow first ticks images
    → LogsFollow ticks acknowledged images.tick logs → FollowMarks later images logs
    → ImagesAre (length first) images image_a image_b → LogsAre logs log_a log_b
    → IsSound image_a image_b log_a log_b first ticks acknowledged
