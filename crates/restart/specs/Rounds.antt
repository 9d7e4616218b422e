-- A store follows the images: the round in work is of the words at its mark.
use Rattle.std.specs.Prelude.{◌≡◌, ℕ, Bool, List, [], ◌++◌, length, drop, map, Option, Some, None}
use Rattle.world_actions.specs.declared.action.Action.{Action}
use Rattle.capture_core.specs.Content.{Content, Marks, Takes, Covers}
use Rattle.capture_core.specs.Taken.{taken_of}
use Rattle.image_files.specs.declared.answer.ImageAnswer.{ImageAnswer}
use Rattle.image_files.specs.Taken.{filled_words}
use Rattle.image_files.specs.Images.{Round, Images, FirstImages, ImageFiles, NoneYet, Newest}
use Rattle.image_files.specs.Images.{round_in, StepsImages}
use Rattle.recovery.specs.Sound.{IsWorldAt}
use Rattle.recovery.specs.Follow.{IsRoundOf}
use Rattle.recovery.specs.Start.{IsFirstRound}
use Rattle.restart.specs.Start.{IsBuilt, images_begun}

-- the words of the cells that a round has left; the word of a cell that is the same is
-- the newest image's
abbrev pub words_left : List (Option ℕ) → (newest : List ℕ) → List ℕ
words_left left newest = filled_words (map taken_of left) newest

-- the words taken, followed by those that are left, are the words at the mark; these have the live
-- word of each untouched cell
pub record IsRoundOver (cells : ℕ) (newest taken marked : List ℕ) (content : Content) : Type 0 where
  pub whole : length marked ≡ cells
  pub words : taken ++ words_left content.left (drop (length taken) newest) ≡ marked
  pub covers : Covers marked content

-- With no round in work nothing is left, and the newest image has the words of untouched cells. The
-- words at the mark of a round in work are the world at its tick.
abbrev pub StoreFollows : (first : List ℕ) → List (List Action) → Content
    → (newest : List ℕ) → Option Round → Type 0
StoreFollows first ticks content newest None = (content.left ≡ []) × Covers newest content
StoreFollows first ticks content newest (Some round) =
    (marked : List ℕ) × IsWorldAt first ticks round.tick marked
    × IsRoundOver (length first) newest round.taken marked content

-- the words of the newest image, or none before the first
abbrev pub words_of : ImageFiles → List ℕ
words_of (NoneYet images) = []
words_of (Newest images) = images.words

-- the same relation for the images as they are
abbrev pub StoreFollowsImages : (first : List ℕ) → List (List Action)
    → Content → ImageFiles → Type 0
StoreFollowsImages first ticks content images =
    StoreFollows first ticks content (words_of images) (round_in images)

-- ---- the events that keep it

-- a mark begins the round of the live words
abbrev pub MarkFollows : Type 0
MarkFollows =
    (first : List ℕ) (ticks : List (List Action)) (tick : ℕ) (newest : List ℕ) (old new : Content)
    → length old.live ≡ length first → IsWorldAt first ticks tick old.live
    → Covers newest old → Marks old new
    → StoreFollows first ticks new newest (Some (record { tick = tick; taken = [] }))

-- a store that was built for a start follows its images, with the start's round or with none
abbrev pub BuiltFollows : Type 0
BuiltFollows =
    (first : List ℕ) (ticks : List (List Action)) (tick : ℕ) (words : List ℕ) (round : Bool)
    (content : Content) (images : ImageFiles)
    → length words ≡ length first → IsWorldAt first ticks tick words → round_in images ≡ None
    → IsBuilt words round content
    → StoreFollowsImages first ticks content (images_begun round tick images)

-- a store still follows its images after writes; these keep the rest of the round, and each image
-- that covers the store
abbrev pub WritesFollow : Type 0
WritesFollow =
    (first : List ℕ) (ticks : List (List Action)) (old new : Content) (images : ImageFiles)
    → new.left ≡ old.left → ((image : List ℕ) → Covers image old → Covers image new)
    → StoreFollowsImages first ticks old images → StoreFollowsImages first ticks new images

-- a store still follows its images after more ticks end
abbrev pub TicksFollow : Type 0
TicksFollow =
    (first : List ℕ) (ticks more : List (List Action)) (content : Content) (images : ImageFiles)
    → StoreFollowsImages first ticks content images
    → StoreFollowsImages first (ticks ++ more) content images

-- a step of the image keeper takes a cell, opens the image of the round, or leaves both
abbrev pub StepFollows : Type 0
StepFollows =
    (first : List ℕ) (ticks : List (List Action)) (images : ImageFiles) (answer : ImageAnswer)
    (next : ImageFiles) (old new : Content)
    → StepsImages Takes (length first) images answer next old new
    → StoreFollowsImages first ticks old images → StoreFollowsImages first ticks new next

-- ---- its consequences

-- after that step the round is as recovery's law requires
abbrev pub RoundFollows : Type 0
RoundFollows =
    (first : List ℕ) (ticks : List (List Action)) (images : Images) (answer : ImageAnswer)
    (next : ImageFiles) (old new : Content)
    → StepsImages Takes (length first) (Newest images) answer next old new
    → IsRoundOf first ticks images.tick images.round
    → StoreFollowsImages first ticks new next → IsRoundOf first ticks images.tick (round_in next)

-- the same before there is an image
abbrev pub FirstRoundFollows : Type 0
FirstRoundFollows =
    (first : List ℕ) (images : FirstImages) (answer : ImageAnswer)
    (next : ImageFiles) (old new : Content)
    → StepsImages Takes (length first) (NoneYet images) answer next old new
    → IsFirstRound first images.round
    → StoreFollowsImages first [] new next → IsFirstRound first (round_in next)

-- if nothing is left of a round, all its cells are taken
abbrev pub AllAreTaken : Type 0
AllAreTaken =
    (first : List ℕ) (ticks : List (List Action)) (content : Content)
    (images : ImageFiles) (round : Round)
    → round_in images ≡ Some round → content.left ≡ []
    → StoreFollowsImages first ticks content images → length round.taken ≡ length first
