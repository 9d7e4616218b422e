-- The files of a new world from which one is recovered are sound.
use Rattle.std.proofs.Common.{◌≡◌, ℕ, List, [], Ok, refl, sym, subst, arith}
use Rattle.file_format.specs.declared.slot.Slot.{Slot}
use Rattle.file_format.specs.declared.slot.Slot.TheVariants.{A, B}
use Rattle.image_files.specs.Image.{Image, Closed, Bad, Open}
use Rattle.action_log.specs.Segment.{Segment, ClosedSegment}
use Rattle.recovery.specs.Recovery.{Recovery, recovery_of}
use Rattle.recovery.specs.Sound.{IsFreshImage, IsFreshReading, IsSoundReading}

-- the first world, from the image in this file
abbrev of_first : List ℕ → Slot → Recovery
of_first first slot = record { tick = 0; from = 0; slot = slot; words = first }

with_image : (first : List ℕ) (P : Image → Type 0) (tick : ℕ) (words : List ℕ) → IsFreshImage first (Open tick words) → P (Open 0 first) → P (Open tick words)
with_image first P tick words f p = subst (λ t. P (Open t words)) (sym f.0) (subst (λ w. P (Open 0 w)) (sym f.1) p)

-- with both segments closed
closed_reading : (x y : Image) (first : List ℕ) (r : Recovery) → IsFreshImage first x → IsFreshImage first y → recovery_of x y ClosedSegment ClosedSegment ≡ Ok r
    → IsSoundReading x y ClosedSegment ClosedSegment first [] 0
closed_reading Closed Closed first r f h e = absurd (let none = e in cc)
closed_reading Bad y first r f h e = absurd f
closed_reading Closed Bad first r f h e = absurd h
closed_reading (Open tick words) Bad first r f h e = absurd h
closed_reading Closed (Open tick words) first r f h e = with_image first (λ y. IsSoundReading Closed y ClosedSegment ClosedSegment first [] 0) tick words h (record {
  recovery = of_first first B;
  stands = refl;
  keeps = omega arith;
  world = record { ended = omega arith; words_are = refl };
  image_a_holds = tt;
  image_b_holds = (omega arith, record { ended = omega arith; words_are = refl });
  log_a_begins = tt;
  log_b_begins = tt;
})
closed_reading (Open tick words) Closed first r f h e = with_image first (λ x. IsSoundReading x Closed ClosedSegment ClosedSegment first [] 0) tick words f (record {
  recovery = of_first first A;
  stands = refl;
  keeps = omega arith;
  world = record { ended = omega arith; words_are = refl };
  image_a_holds = (omega arith, record { ended = omega arith; words_are = refl });
  image_b_holds = tt;
  log_a_begins = tt;
  log_b_begins = tt;
})
closed_reading (Open tick words) (Open other others) first r f h e =
    with_image first (λ x. IsSoundReading x (Open other others) ClosedSegment ClosedSegment first [] 0) tick words f
    (with_image first (λ y. IsSoundReading (Open 0 first) y ClosedSegment ClosedSegment first [] 0) other others h (record {
      recovery = of_first first A;
      stands = refl;
      keeps = omega arith;
      world = record { ended = omega arith; words_are = refl };
      image_a_holds = (omega arith, record { ended = omega arith; words_are = refl });
      image_b_holds = (omega arith, record { ended = omega arith; words_are = refl });
      log_a_begins = tt;
      log_b_begins = tt;
    }))

pub new_reading : (x y : Image) (a b : Segment) (first : List ℕ) (r : Recovery) → IsFreshReading x y a b first → recovery_of x y a b ≡ Ok r → IsSoundReading x y a b first [] 0
new_reading x y a b first r f e =
    subst (λ s. IsSoundReading x y s b first [] 0) (sym f.log_a_closed) (subst (λ s. IsSoundReading x y ClosedSegment s first [] 0) (sym f.log_b_closed)
    (closed_reading x y first r f.image_a_fresh f.image_b_fresh
    (subst (λ s. recovery_of x y ClosedSegment s ≡ Ok r) f.log_b_closed (subst (λ s. recovery_of x y s b ≡ Ok r) f.log_a_closed e))))
