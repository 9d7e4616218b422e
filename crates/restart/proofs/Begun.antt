-- A store that was built for a start follows its images.
use Rattle.std.proofs.Common.{◌≡◌, ℕ, zero, suc, Bool, true, false, List, [], length, replicate, Some, None, sym, ap, subst}
use Rattle.std.specs.Prelude.{slice_get}
use Rattle.world_actions.specs.declared.action.Action.{Action}
use Rattle.capture_core.specs.Content.{Content, all_touched, Covers}
use Rattle.image_files.specs.Images.{ImageFiles, NoneYet, Newest, round_in}
use Rattle.recovery.specs.Sound.{IsWorldAt}
use Rattle.restart.specs.Start.{IsBuilt, images_begun}
use Rattle.restart.specs.Rounds.{StoreFollows, StoreFollowsImages, words_of}
use Rattle.restart.proofs.Marked.{mark_follows}

all_true : (n i : ℕ) → slice_get (replicate n true) i ≡ Some false → ⊥
all_true zero i e = (let h = e in cc)
all_true (suc n) zero e = (let h = e in cc)
all_true (suc n) (suc i) e = all_true n i e

covers_all : (words image : List ℕ) → Covers image (all_touched words [])
covers_all words image = λ i e. absurd (all_true (length words) i e)

pub built_follows : (first : List ℕ) (ticks : List (List Action)) (tick : ℕ) (words : List ℕ) (round : Bool) (content : Content)
    (images : ImageFiles) → length words ≡ length first → IsWorldAt first ticks tick words → round_in images ≡ None → IsBuilt words round content
    → StoreFollowsImages first ticks content (images_begun round tick images)
built_follows first ticks tick words true content (NoneYet images) whole at none s = mark_follows first ticks tick [] (all_touched words []) content whole at (covers_all words []) s
built_follows first ticks tick words true content (Newest images) whole at none s = mark_follows first ticks tick images.words (all_touched words []) content whole at (covers_all words images.words) s
built_follows first ticks tick words false content images whole at none s =
    subst (StoreFollows first ticks content (words_of images)) (sym none)
    (ap (λ (c : Content). c.left) s, subst (Covers (words_of images)) (sym s) (covers_all words (words_of images)))
