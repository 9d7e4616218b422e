-- The facts on failures of the log's devices carry over from step to step.
use Rattle.std.proofs.Common.{◌≡◌, ℕ, Bool, true, false, refl, sym, ap, ◌∙◌, subst}
use Rattle.disk_model.specs.Disk.{FaultsBy}
use Rattle.workers.specs.declared.log_writer.Log.{Log}
use Rattle.workers.specs.Logging.{LogReportsFaults}

module _ {D : Type 0} (faults : D → ℕ) where
  module _ (u v w : Log D) (s : LogReportsFaults faults u v) (t : LogReportsFaults faults v w) where
    down_by : (down : Bool) → v.keeper.down ≡ down → u.keeper.down ≡ false → w.keeper.down ≡ true → FaultsBy true (faults u.a) (faults w.a) (faults u.b) (faults w.b)
    down_by true is up fell = subst (λ (x : Log D). FaultsBy true (faults u.a) (faults x.a) (faults u.b) (faults x.b)) (sym (t.stays is)) (s.down up is)
    down_by false is up fell = subst (λ (x : ℕ × ℕ). FaultsBy true x.0 (faults w.a) x.1 (faults w.b)) (λ i. ((s.up is).0 i, (s.up is).1 i)) (t.down is fell)

    up_by : (down : Bool) → v.keeper.down ≡ down → w.keeper.down ≡ false → FaultsBy false (faults u.a) (faults w.a) (faults u.b) (faults w.b)
    up_by true is up = absurd (let e : true ≡ false = sym is ∙ (sym (ap (λ (l : Log D). l.keeper.down) (t.stays is)) ∙ up) in cc)
    up_by false is up = ((t.up up).0 ∙ (s.up is).0, (t.up up).1 ∙ (s.up is).1)

    pub faults_then : LogReportsFaults faults u w
    faults_then = record {
      down = down_by v.keeper.down refl;
      up = up_by v.keeper.down refl;
      stays = λ down. t.stays (ap (λ (l : Log D). l.keeper.down) (s.stays down) ∙ down) ∙ s.stays down;
    }
