-- What is known of the bytes that were read of the files holds for all bytes of the files.
use Rattle.std.proofs.Common.{◌≡◌, ℕ, Bool, true, false, ◌&&◌, not, nat_eq, nat_lt, IsTrue, lt-ltb, List, [], ◌∷◌, length, take, Result, refl, sym, ap, subst, ◌∙◌, arith}
use Rattle.world_actions.specs.declared.refusal.Refusal.{Refusal}
use Rattle.disk_model.specs.FourFiles.{EachFile, KeepsFile, mapped}
use Rattle.disk_model.specs.declared.four_files.FourFiles.{FourFiles}
use Rattle.disk_model.specs.declared.disk.Disk.{Ghosts}
use Rattle.file_format.specs.declared.gate.TheConstants.{OPEN_GATE}
use Rattle.image_files.specs.Image.{Image, image_of}
use Rattle.image_files.specs.ImageRead.{IsFront}
use Rattle.action_log.specs.Segment.{ClosedSegment}
use Rattle.recovery.specs.Recovery.{Recovery, Recovers, recovery_of}
use Rattle.image_files.specs.Files.{ReportsShut}
use Rattle.restart.specs.Start.{is_shut}
use Rattle.engine.specs.Begins.{AreGates}
use Rattle.file_readers.specs.Reading.{AreFilesRead}
use Rattle.world_start.specs.Opening.{RecoversBytes}
use Rattle.world_start.specs.Fresh.{AreClosed}

-- ---- the gates

first_of : (x y : ℕ) (xs ys : List ℕ) → x ∷ xs ≡ y ∷ ys → x ≡ y
first_of x y xs ys e = cc

-- a gate that is there
shut_gate : (gate : ℕ) (more : List ℕ) → is_shut (gate ∷ more) ≡ not (nat_eq gate OPEN_GATE)
shut_gate gate more =
    let some : nat_lt 0 (length (gate ∷ more)) ≡ true = lt-ltb 0 (length (gate ∷ more)) (omega arith) in
    ap (λ (b : Bool). b && not (nat_eq gate OPEN_GATE)) some

-- the first bytes of a file have its gate
pub shut_same : (file bytes : List ℕ) → IsFront file bytes → is_shut bytes ≡ is_shut file
shut_same [] [] front = refl
shut_same (gate ∷ file) [] front = absurd (omega (arith, front.gate (omega arith)))
shut_same [] (byte ∷ bytes) front = absurd (no_bytes byte bytes front.first)
  where
    no_bytes : (byte : ℕ) (bytes : List ℕ) → byte ∷ bytes ≡ take (length (byte ∷ bytes)) [] → ⊥
    no_bytes byte bytes e = cc
shut_same (gate ∷ file) (byte ∷ bytes) front =
    let same : byte ≡ gate = first_of byte gate bytes (take (length bytes) file) front.first in
    shut_gate byte bytes ∙ ap (λ (x : ℕ). not (nat_eq x OPEN_GATE)) same ∙ sym (shut_gate gate file)

-- ---- the four files

module _ {D : Type 0} (disk : Ghosts D) (files : FourFiles D) (ia ib la lb : List ℕ) (read : AreFilesRead disk.content files ia ib la lb) where
  pub read_recovers : (x : Result Recovery Refusal) → Recovers ia ib la lb x
      → Recovers (disk.content files.image_a) (disk.content files.image_b) (disk.content files.log_a) (disk.content files.log_b) x
  read_recovers x e = record {
    a = e.a;
    b = e.b;
    reads_a = (read.log_a_read.reads e.a).0 e.reads_a;
    reads_b = (read.log_b_read.reads e.b).0 e.reads_b;
    holds =
        ap (λ (image : Image). recovery_of image (image_of (disk.content files.image_b)) e.a e.b) (sym read.image_a_read.reads) ∙ ap
        (λ (image : Image). recovery_of (image_of ia) image e.a e.b) (sym read.image_b_read.reads) ∙ e.holds;
  }

  pub read_closed : AreClosed ia ib la lb → AreClosed (disk.content files.image_a) (disk.content files.image_b) (disk.content files.log_a) (disk.content files.log_b)
  read_closed closed = record {
    image_a_closed = sym read.image_a_read.reads ∙ closed.image_a_closed;
    image_b_closed = sym read.image_b_read.reads ∙ closed.image_b_closed;
    log_a_closed = (read.log_a_read.reads ClosedSegment).0 closed.log_a_closed;
    log_b_closed = (read.log_b_read.reads ClosedSegment).0 closed.log_b_closed;
  }

  -- the flags of the bytes that were read are those of the files
  pub read_gates : ((bytes : List ℕ) → ReportsShut (is_shut bytes) bytes) → (left : FourFiles D) → EachFile files left (KeepsFile disk)
      → (shut : FourFiles Bool) → shut.image_a ≡ is_shut ia → shut.image_b ≡ is_shut ib → shut.log_a ≡ is_shut la → shut.log_b ≡ is_shut lb → AreGates disk.content left shut
  read_gates reported left kept shut a b c d = record {
    image_a = gate (disk.content files.image_a) (disk.content left.image_a) ia shut.image_a a read.image_a_read.front kept.image_a.same_content;
    image_b = gate (disk.content files.image_b) (disk.content left.image_b) ib shut.image_b b read.image_b_read.front kept.image_b.same_content;
    log_a = gate (disk.content files.log_a) (disk.content left.log_a) la shut.log_a c read.log_a_read.front kept.log_a.same_content;
    log_b = gate (disk.content files.log_b) (disk.content left.log_b) lb shut.log_b d read.log_b_read.front kept.log_b.same_content;
  }
    where
      gate : (before after bytes : List ℕ) (flag : Bool) → flag ≡ is_shut bytes → IsFront before bytes → after ≡ before → ReportsShut flag after
      gate before after bytes flag is front same =
          subst (λ s. ReportsShut s after) (sym (is ∙ shut_same before bytes front ∙ ap is_shut (sym same))) (reported after)

-- bytes with this recovery, which are those of the files if these keep to the disk model
chosen_by : {D : Type 0} (disk : Ghosts D) (honest : Bool) → disk.honest ≡ honest → (files : FourFiles D) (x : Result Recovery Refusal)
    (ia ib la lb : List ℕ) → Recovers ia ib la lb x → (IsTrue honest → AreFilesRead disk.content files ia ib la lb) → RecoversBytes disk files x
chosen_by disk true is files x ia ib la lb e read = record { bytes = mapped disk.content files; recovers = read_recovers disk files ia ib la lb (read refl) x e; read = λ honest. refl }
chosen_by disk false is files x ia ib la lb e read = record {
  bytes = record { image_a = ia; image_b = ib; log_a = la; log_b = lb };
  recovers = e;
  read = λ honest. absurd (let h = honest in let i = is in cc);
}

pub chosen : {D : Type 0} (disk : Ghosts D) (files : FourFiles D) (x : Result Recovery Refusal)
    (ia ib la lb : List ℕ) → Recovers ia ib la lb x → (IsTrue disk.honest → AreFilesRead disk.content files ia ib la lb) → RecoversBytes disk files x
chosen disk = chosen_by disk disk.honest refl
