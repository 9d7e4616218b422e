-- The files of a world that follows its ticks are sound.
use Rattle.std.proofs.Common.{rules}
use Rattle.std.proofs.lemmas.Grind.{common_steps}
use Rattle.std.proofs.Common.{◌≡◌, ◌≤◌, ℕ, false, List, take, None, subst, arith}
use Rattle.std.proofs.lemmas.List.{length-take, take_all, take-take}
use Rattle.world_actions.specs.declared.action.Action.{Action}
use Rattle.disk_model.specs.declared.disk.Disk.{Ghosts}
use Rattle.image_files.specs.Image.{Image, image_of}
use Rattle.image_files.specs.Images.{ImageFiles, ImageFilesAre, newest_in}
use Rattle.action_log.specs.Segment.{Segment}
use Rattle.recovery.specs.Sound.{IsWorldAt, HoldsWorld, IsSoundReading, IsSound}
use Rattle.restart.specs.InStep.{IsSafe}
use Rattle.engine.specs.World.{World}
use Rattle.engine.specs.Follows.{Follows, AreSound}
use Rattle.engine.specs.Runs.{HasNewest}
use Rattle.engine.specs.Laws.{KeeperLaws}
use Rattle.engine.proofs.Following.{has_started}

-- ---- of more ticks

world_of_more : (first : List ℕ) (ticks : List (List Action)) (most tick : ℕ) (words : List ℕ) → IsWorldAt first (take most ticks) tick words → IsWorldAt first ticks tick words
world_of_more first ticks most tick words w = search (rules, length-take, take-take)

holds_of_more : (first : List ℕ) (ticks : List (List Action)) (most bound : ℕ) (image : Image) → HoldsWorld first (take most ticks) bound image → HoldsWorld first ticks bound image
holds_of_more first ticks most bound image h = grind (arith, common_steps, world_of_more)

-- the same reading of other ticks of which it holds the same worlds, if it keeps as many as are acknowledged
pub reading_of : (image_a image_b : Image) (log_a log_b : Segment) (first : List ℕ) (ticks more : List (List Action)) (count acknowledged : ℕ)
    (k : IsSoundReading image_a image_b log_a log_b first ticks count)
    → acknowledged ≤ k.recovery.tick → ((tick : ℕ) (words : List ℕ) → IsWorldAt first ticks tick words → IsWorldAt first more tick words)
    → ((bound : ℕ) (image : Image) → HoldsWorld first ticks bound image → HoldsWorld first more bound image) → IsSoundReading image_a image_b log_a log_b first more acknowledged
reading_of image_a image_b log_a log_b first ticks more count acknowledged k keeps worlds holds = search rules

-- files that are sound for the first ticks, and acknowledge as many, are sound for all of them
pub sound_of_more : (a b la lb : List ℕ → Type 0) (first : List ℕ) (ticks : List (List Action)) (most acknowledged count : ℕ)
    → acknowledged ≤ count → IsSound a b la lb first (take most ticks) count → IsSound a b la lb first ticks acknowledged
sound_of_more a b la lb first ticks most acknowledged count fewer s x y z w hx hy hz hw =
    let r = s x y z w hx hy hz hw in
    let holds = reading_of (image_of x) (image_of y) r.a r.b first (take most ticks) ticks count acknowledged r.holds
    (omega (arith, fewer, r.holds.keeps)) (world_of_more first ticks most) (holds_of_more first ticks most) in
    record { a = r.a; b = r.b; reads_a = r.reads_a; reads_b = r.reads_b; holds = holds }

-- ---- of a world that is followed

safe_is_sound : (images : ImageFiles) (a b la lb : List ℕ → Type 0) (first : List ℕ) (ticks : List (List Action))
    (acknowledged : ℕ) → (newest_in images ≡ None → ⊥) → IsSafe images a b la lb first ticks acknowledged → IsSound a b la lb first ticks acknowledged
safe_is_sound images a b la lb first ticks acknowledged has s = search rules

pub fewer_sound : (a b la lb : List ℕ → Type 0) (first : List ℕ) (ticks : List (List Action)) (acknowledged count : ℕ)
    → acknowledged ≤ count → IsSound a b la lb first ticks count → IsSound a b la lb first ticks acknowledged
fewer_sound a b la lb first ticks acknowledged count fewer s = search (rules, sound_of_more, take_all)

module _ {D : Type 0} (disk : Ghosts D) (laws : KeeperLaws disk) (world : World D) (first : List ℕ) (ticks : List (List Action)) (acknowledged : ℕ)
    (f : Follows disk world first ticks acknowledged) where
  -- the files of a world are safe
  pub follows_safe : IsSafe f.images (disk.may_leave world.files.image_a) (disk.may_leave world.files.image_b) (disk.may_leave world.files.log_a) (disk.may_leave world.files.log_b) first ticks f.count
  follows_safe =
      let files = world.files in
      laws.safe files.image_a files.image_b files.log_a files.log_b first ticks f.count world.content f.images f.place.journal world.queue f.in_step
      (subst (λ n. ImageFilesAre n f.images (disk.may_leave files.image_a) (disk.may_leave files.image_b)) f.cells (laws.images_are world.images f.images files.image_a files.image_b f.has_images))
      (laws.reads world.log files.log_a files.log_b f.place f.has_log)

  pub follows_sound : HasNewest world.images → AreSound disk world.files first ticks acknowledged
  follows_sound has =
      let files = world.files in
      fewer_sound (disk.may_leave files.image_a) (disk.may_leave files.image_b) (disk.may_leave files.log_a) (disk.may_leave files.log_b) first ticks acknowledged f.count f.at_least
      (search (rules, safe_is_sound, follows_safe))

  -- after the start there is an image
  pub started_sound : world.log.starting ≡ false → AreSound disk world.files first ticks acknowledged
  started_sound over = search (rules, has_started, follows_sound)
