-- A new world that is not served.
use Rattle.std.proofs.Common.{◌≡◌, ℕ, Bool, true, false, IsTrue, List, [], replicate, Option, Some, None, Result, Ok, Err, inl, inr, sym, subst, ◌∙◌}
use Rattle.std.specs.Prelude.{if◌then◌else◌, ◌||◌, IfErr, IsErrAnd}
use Rattle.world_actions.specs.declared.action.Action.{Action}
use Rattle.world_actions.specs.declared.refusal.Refusal.{Refusal}
use Rattle.world_actions.specs.declared.refusal.Refusal.TheVariants.{NotEmpty, BadImage, BadLog}
use Rattle.disk_model.specs.declared.four_files.FourFiles.{FourFiles}
use Rattle.disk_model.specs.declared.disk.Disk.{Ghosts}
use Rattle.image_files.specs.Image.{image_of}
use Rattle.action_log.specs.Segment.{Segment}
use Rattle.action_log.specs.Spellings.{ReadsOnce}
use Rattle.recovery.specs.Recovery.{Recovery, Recovers, Newest, recovery_with, recovery_from, recovery_of, words_after, tail, newest, is_bad_image, is_bad_segment}
use Rattle.engine.specs.Follows.{AreSound}
use Rattle.world_start.specs.Opening.{IsRefused, RecoversAll}
use Rattle.world_start.specs.Fresh.{AreMade, AreNotMade}
use Rattle.serial_world.specs.Opened.{IsNotOpened}
use Rattle.test_serial.specs.Created.{IsRefusedNew, IsNotCreated}

pub if_same : {T E : Type 0} (r : Result T E) (error : E) (P : E → Type 0) → IsErrAnd r (λ e. e ≡ error) → P error → IfErr r P
if_same (Ok value) error P h p = tt
if_same (Err other) error P h p = subst P (sym h) p

pub if_both : {T E : Type 0} (r : Result T E) (P Q R : E → Type 0) → ((error : E) → P error → Q error → R error) → IfErr r P → IfErr r Q → IfErr r R
if_both (Ok value) P Q R f p q = tt
if_both (Err error) P Q R f p q = f error p q

-- ---- recovery has other reasons than `NotEmpty`

with_words : (image : Newest) (ticks : List (List Action)) (words : Result (List ℕ) Refusal) → recovery_with image ticks words ≡ Err NotEmpty → ⊥
with_words image ticks (Ok words) e = cc
with_words image ticks (Err refusal) e = cc

from_image : (image : Option Newest) (a b : Segment) → recovery_from image a b ≡ Err NotEmpty → ⊥
from_image None a b e = cc
from_image (Some image) a b e = with_words image (tail image.tick a b) (words_after image.words (tail image.tick a b)) e

good_files : (images segments : Bool) (r : Result Recovery Refusal) → (if images then Err BadImage else (if segments then Err BadLog else r)) ≡ Err NotEmpty → r ≡ Err NotEmpty
good_files true segments r e = cc
good_files false true r e = cc
good_files false false r e = e

other_reason : (a b la lb : List ℕ) → Recovers a b la lb (Err NotEmpty) → ⊥
other_reason a b la lb e =
    from_image (newest (image_of a) (image_of b)) e.a e.b
    (good_files (is_bad_image (image_of a) || is_bad_image (image_of b)) (is_bad_segment e.a || is_bad_segment e.b) (recovery_from (newest (image_of a) (image_of b)) e.a e.b) e.holds)

module _ {D : Type 0} (disk : Ghosts D) where
  -- recovery refuses no files that are sound
  none_refused : ReadsOnce → ((file : D) → disk.may_leave file (disk.content file)) → (files : FourFiles D) (first : List ℕ)
      (ticks : List (List Action)) (acknowledged : ℕ) → AreSound disk files first ticks acknowledged
      → (refusal : Refusal) → Recovers (disk.content files.image_a) (disk.content files.image_b) (disk.content files.log_a) (disk.content files.log_b) (Err refusal) → ⊥
  none_refused once stays files first ticks acknowledged sound refusal e =
      let s =
      sound (disk.content files.image_a) (disk.content files.image_b) (disk.content files.log_a) (disk.content files.log_b)
      (stays files.image_a) (stays files.image_b) (stays files.log_a) (stays files.log_b) in
      let images = λ (x y : Segment). recovery_of (image_of (disk.content files.image_a)) (image_of (disk.content files.image_b)) x y in
      let there : images s.a s.b ≡ Err refusal =
      subst (λ x. images x s.b ≡ Err refusal) (once (disk.content files.log_a) e.a s.a e.reads_a s.reads_a)
      (subst (λ y. images e.a y ≡ Err refusal) (once (disk.content files.log_b) e.b s.b e.reads_b s.reads_b) e.holds) in
      let same : ◌≡◌ {A = Result Recovery Refusal} (Ok s.holds.recovery) (Err refusal) = sym s.holds.stands ∙ there in
      cc

  -- the reasons why the new files are not opened
  pub new_refused : ReadsOnce → (IsTrue disk.honest → (file : D) → disk.may_leave file (disk.content file)) → (files made : FourFiles D) (cells : ℕ)
      → (IsTrue disk.honest → AreMade disk files cells made) → (refusal : Refusal) → IsRefused disk made refusal → IsRefusedNew disk files refusal
  new_refused once stays files made cells m refusal (inl memory) = inr (inl memory)
  new_refused once stays files made cells m refusal (inr (inl device)) = inr (inr (inl device))
  new_refused once stays files made cells m refusal (inr (inr r)) =
      inr (inr (inr (
        r.bytes,
        r.recovers,
        λ honest synced. none_refused once (stays honest) made (replicate cells 0) [] 0 ((m honest).sound synced) refusal
            (subst (λ (bytes : FourFiles (List ℕ)). RecoversAll bytes (Err refusal)) (r.read honest) r.recovers),
      )))

  not_by_open : (files : FourFiles D) (refusal : Refusal) → IsRefused disk files refusal → refusal ≡ NotEmpty → ⊥
  not_by_open files refusal (inl memory) is = cc
  not_by_open files refusal (inr (inl device)) is = cc
  not_by_open files refusal (inr (inr r)) is = other_reason _ _ _ _ (subst (λ (x : Refusal). RecoversAll r.bytes (Err x)) is r.recovers)

  -- what is left of the new files, if they are not opened
  pub new_left : (files made : FourFiles D) (cells : ℕ) → AreMade disk files cells made → (refusal : Refusal) (left : FourFiles D) → IsRefused disk made refusal → IsNotOpened disk made refusal left
      → IsNotCreated disk files cells refusal left
  new_left files made cells m refusal left refused n = record {
    not_empty = λ is. absurd (not_by_open made refusal refused is);
    kept = λ other. inr (made, m, n.kept other);
    safe = λ synced closed. inr (n.sound (replicate cells 0) [] 0 (m.synced synced) (m.sound synced));
  }

  -- what is left of files that were not made
  pub none_made : (files : FourFiles D) (cells : ℕ) (refusal : Refusal) (left : FourFiles D) → AreNotMade disk files cells refusal left → IsNotCreated disk files cells refusal left
  none_made files cells refusal left n = record { not_empty = n.not_empty; kept = λ other. inl (n.kept other); safe = n.safe }
