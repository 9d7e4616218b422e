-- A round continues from step to step.
use Rattle.std.proofs.Common.{◌≡◌, ◌≢◌, ◌⊎◌, inl, inr, ℕ, ◌<◌, true, false, List, [], ◌∷◌, ◌++◌, refl, sym, ap, ◌∙◌, subst}
use Rattle.disk_model.specs.Disk.{FaultsBy}
use Rattle.image_files.specs.declared.phase.Phase.{Phase}
use Rattle.image_files.specs.declared.phase.Phase.TheVariants.{Idle, Closing, ClosingSync, Header, Taking, Reading, Writing, BodySync, Opening, OpeningSync, Down}
use Rattle.image_files.specs.Progress.{Progress, left_of}
use Rattle.shared_capture.specs.declared.view.Snapshot.{Snapshot}
use Rattle.shared_capture.specs.States.{BackState}
use Rattle.workers.specs.declared.gate.Place.{Place}
use Rattle.workers.specs.declared.gate.Place.TheVariants.{Device}
use Rattle.workers.specs.declared.gate.Pass.{Pass}
use Rattle.workers.specs.Gates.{MayGo}
use Rattle.workers.specs.declared.checkpointer.round.ImageWriter.{ImageWriter}
use Rattle.workers.specs.Imaging.{place_of, HasRound, RoundRuns, ReportsFaults, Imaging, GoesOn, KeepsBack}
use Rattle.workers.proofs.Imagings.{is_busy}

runs_then : (keeper next : Progress) (old mid new : BackState) → HasRound keeper → RoundRuns old keeper mid → RoundRuns mid next new → RoundRuns old next new
runs_then keeper next old mid new busy first then =
    let was = first.in_work busy in
    record {
      same = (then.same.0 ∙ first.same.0, then.same.1 ∙ first.same.1, then.same.2 ∙ first.same.2);
      in_work = λ on. (let is = then.in_work on in (is.0, is.1 ∙ was.1, is.2 ∙ was.2));
      done = λ idle. (let d = then.done idle in (d.0, d.1 ∙ was.1, d.2 ∙ first.same.1, d.3 ∙ ap (λ (l : List Snapshot). l ++ d.0 ∷ []) was.2, d.4));
    }

module _ {D : Type 0} (faults : D → ℕ) where
  reported_then : (old mid new : ImageWriter D) → mid.keeper.phase ≢ Down → ReportsFaults faults old mid → ReportsFaults faults mid new → ReportsFaults faults old new
  reported_then old mid new up first then =
      let same = first.up up in
      record {
        down = λ fell. subst (λ (x : ℕ × ℕ). FaultsBy true x.0 (faults new.image_a) x.1 (faults new.image_b)) (λ i. (same.0 i, same.1 i)) (then.down fell);
        up = λ stays. (let now = then.up stays in (now.0 ∙ same.0, now.1 ∙ same.1));
      }

  module _ (go stuck : Type 0) where
    -- no step is made yet
    pub goes_none : (old : Imaging D) → HasRound old.images.keeper → old.images.keeper.phase ≢ Down → old.back.working ≡ true → old.over ≡ false → GoesOn go stuck faults old old
    goes_none old busy up working goes = record {
      runs = record {
        same = (refl, refl, refl);
        in_work = λ _. (working, refl, refl);
        done = λ idle. absurd (busy idle);
      };
      failures = record { down = λ fell. absurd (up fell); up = λ _. (refl, refl) };
      asks = inl refl;
      over = λ over. absurd (let e : false ≡ true = sym goes ∙ over in cc);
      up = λ _. up;
    }

    -- one more step
    pub goes_then : (old mid new : Imaging D) → mid.over ≡ false → 0 < left_of mid.images.keeper → GoesOn go stuck faults old mid → GoesOn go stuck faults mid new → GoesOn go stuck faults old new
    goes_then old mid new goes left first then = record {
      runs = runs_then mid.images.keeper new.images.keeper old.back mid.back new.back (is_busy mid.images.keeper left) first.runs then.runs;
      failures = reported_then old.images mid.images new.images (first.up goes) first.failures then.failures;
      asks = elim first.asks [
        | inl same ↦ elim then.asks [ inl still ↦ inl (still ∙ same) | inr let_go ↦ inr let_go ]
        | inr let_go ↦ inr let_go
      ];
      over = then.over;
      up = then.up;
    }

-- what the gate may answer to one step it may answer to some step
pub goes_at : {D : Type 0} (faults : D → ℕ) (go stuck go' stuck' : Type 0) (old new : Imaging D) → (go → go') → (stuck → stuck') → GoesOn go stuck faults old new → GoesOn go' stuck' faults old new
goes_at faults go stuck go' stuck' old new going sticking goes = record {
  runs = goes.runs;
  failures = goes.failures;
  asks = elim goes.asks [ inl same ↦ inl same | inr let_go ↦ inr (going let_go) ];
  over = λ over. (let is = goes.over over in (is.0, elim is.1 [ inl down ↦ inl down | inr stays ↦ inr (sticking stays) ]));
  up = goes.up;
}

module _ {D G : Type 0} (reported : G → Place → Pass → G → Type 0) where
  -- the files stay as they are, or the gate may let a call of a device be made
  abbrev pub FilesAsk : (old new : ImageWriter D) → Type 0
  FilesAsk old new = ((new.image_a ≡ old.image_a) × (new.image_b ≡ old.image_b)) ⊎ MayGo reported Device

  all_same : (old new : ImageWriter D) → (new ≡ old) ⊎ MayGo reported Device → FilesAsk old new
  all_same old new (inl same) = inl (ap (λ (w : ImageWriter D). w.image_a) same, ap (λ (w : ImageWriter D). w.image_b) same)
  all_same old new (inr let_go) = inr let_go

  pub files_ask : (phase : Phase) (old new : ImageWriter D) → (new ≡ old) ⊎ MayGo reported (place_of phase)
      → (phase ≡ Taking → (new.image_a ≡ old.image_a) × (new.image_b ≡ old.image_b)) → FilesAsk old new
  files_ask Idle old new asks takes = all_same old new asks
  files_ask Closing old new asks takes = all_same old new asks
  files_ask ClosingSync old new asks takes = all_same old new asks
  files_ask Header old new asks takes = all_same old new asks
  files_ask Taking old new asks takes = inl (takes refl)
  files_ask Reading old new asks takes = all_same old new asks
  files_ask Writing old new asks takes = all_same old new asks
  files_ask BodySync old new asks takes = all_same old new asks
  files_ask Opening old new asks takes = all_same old new asks
  files_ask OpeningSync old new asks takes = all_same old new asks
  files_ask Down old new asks takes = all_same old new asks

  pub files_then : (old mid new : ImageWriter D) → FilesAsk old mid → FilesAsk mid new → FilesAsk old new
  files_then old mid new (inr let_go) then = inr let_go
  files_then old mid new (inl first) (inr let_go) = inr let_go
  files_then old mid new (inl first) (inl then) = inl (then.0 ∙ first.0, then.1 ∙ first.1)

pub keeps_then : {D : Type 0} (old mid new : Imaging D) → KeepsBack old mid → KeepsBack mid new → KeepsBack old new
keeps_then old mid new first then = record {
  pair = then.pair ∙ first.pair;
  cells = then.cells ∙ first.cells;
  word = then.word ∙ first.word;
  opening = then.opening ∙ first.opening;
}
